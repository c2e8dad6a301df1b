use Rattle.machine_buffers.proofs.Inserting.{opened_while}
use Rattle.machine_buffers.proofs.laws.opened_phases_stay.Goals as goal

pub returns : goal.returns
returns c = opened_while
