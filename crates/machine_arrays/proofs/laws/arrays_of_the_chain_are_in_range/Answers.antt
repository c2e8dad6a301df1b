use Rattle.machine_arrays.proofs.Ranges.{chain_range}
use Rattle.machine_arrays.proofs.laws.arrays_of_the_chain_are_in_range.Goals as goal

pub returns : goal.returns
returns c = chain_range
