use Rattle.machine_arrays.proofs.Places.{in_order}
use Rattle.machine_arrays.proofs.laws.arrays_are_filled_in_order.Goals as goal

pub returns : goal.returns
returns c = in_order
