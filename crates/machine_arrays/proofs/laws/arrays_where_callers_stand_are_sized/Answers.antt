use Rattle.machine_arrays.proofs.Sizes.{where_standing}
use Rattle.machine_arrays.proofs.laws.arrays_where_callers_stand_are_sized.Goals as goal

pub returns : goal.returns
returns c = where_standing
