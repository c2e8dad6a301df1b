use Rattle.machine_arrays.proofs.Sizes.{in_use}
use Rattle.machine_arrays.proofs.laws.arrays_in_use_are_sized.Goals as goal

pub returns : goal.returns
returns c = in_use
