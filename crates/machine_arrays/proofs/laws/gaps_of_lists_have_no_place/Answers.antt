use Rattle.machine_arrays.proofs.Keys.{gaps_empty}
use Rattle.machine_arrays.proofs.laws.gaps_of_lists_have_no_place.Goals as goal

pub returns : goal.returns
returns c = gaps_empty
