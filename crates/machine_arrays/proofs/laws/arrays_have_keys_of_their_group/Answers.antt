use Rattle.machine_arrays.proofs.Ranges.{of_group}
use Rattle.machine_arrays.proofs.laws.arrays_have_keys_of_their_group.Goals as goal

pub returns : goal.returns
returns c = of_group
