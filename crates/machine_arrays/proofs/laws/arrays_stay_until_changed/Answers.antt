use Rattle.machine_arrays.proofs.Changes.{left_until}
use Rattle.machine_arrays.proofs.laws.arrays_stay_until_changed.Goals as goal

pub returns : goal.returns
returns c = left_until
