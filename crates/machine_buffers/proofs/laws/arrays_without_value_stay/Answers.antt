use Rattle.machine_buffers.proofs.Inserting.{array_while}
use Rattle.machine_buffers.proofs.laws.arrays_without_value_stay.Goals as goal

pub returns : goal.returns
returns c = array_while
