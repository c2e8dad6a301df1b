use Rattle.machine_arrays.proofs.Sizes.{of_keys}
use Rattle.machine_arrays.proofs.laws.sizes_are_of_the_keys.Goals as goal

pub returns : goal.returns
returns c = of_keys
