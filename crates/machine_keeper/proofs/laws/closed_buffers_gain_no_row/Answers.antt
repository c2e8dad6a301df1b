use Rattle.machine_keeper.proofs.FromOpening.{closed_buffers}
use Rattle.machine_keeper.proofs.laws.closed_buffers_gain_no_row.Goals as goal

pub returns : goal.returns
returns c = closed_buffers
