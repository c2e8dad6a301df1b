use Rattle.machine_arrays.proofs.Sizes.{of_chain}
use Rattle.machine_arrays.proofs.laws.arrays_of_the_chain_are_sized.Goals as goal

pub returns : goal.returns
returns c = of_chain
