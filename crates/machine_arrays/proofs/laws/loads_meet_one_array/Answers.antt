use Rattle.machine_arrays.proofs.Sizes.{one_array}
use Rattle.machine_arrays.proofs.laws.loads_meet_one_array.Goals as goal

pub returns : goal.returns
returns c = one_array
