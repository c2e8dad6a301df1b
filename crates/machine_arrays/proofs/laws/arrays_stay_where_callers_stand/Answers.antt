use Rattle.machine_arrays.proofs.Sizes.{while_standing}
use Rattle.machine_arrays.proofs.laws.arrays_stay_where_callers_stand.Goals as goal

pub returns : goal.returns
returns c = while_standing
