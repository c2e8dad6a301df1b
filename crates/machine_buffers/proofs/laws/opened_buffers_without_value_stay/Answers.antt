use Rattle.machine_buffers.proofs.Inserting.{buffer_while}
use Rattle.machine_buffers.proofs.laws.opened_buffers_without_value_stay.Goals as goal

pub returns : goal.returns
returns c = buffer_while
