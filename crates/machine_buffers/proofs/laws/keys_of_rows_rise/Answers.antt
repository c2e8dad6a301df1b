use Rattle.machine_buffers.proofs.Walks.{rise}
use Rattle.machine_buffers.proofs.laws.keys_of_rows_rise.Goals as goal

pub returns : goal.returns
returns c = rise
