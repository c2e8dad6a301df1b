use Rattle.machine_arrays.proofs.Places.{are_keys}
use Rattle.machine_arrays.proofs.laws.keys_of_arrays_are_keys.Goals as goal

pub returns : goal.returns
returns c = are_keys
