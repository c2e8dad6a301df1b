use Rattle.machine_arrays.proofs.Places.{keys_rise}
use Rattle.machine_arrays.proofs.laws.keys_of_arrays_rise.Goals as goal

pub returns : goal.returns
returns c = keys_rise
