use Rattle.machine_arrays.proofs.Keys.{keys_loaded}
use Rattle.machine_arrays.proofs.laws.keys_of_lists_may_be_loaded.Goals as goal

pub returns : goal.returns
returns c = keys_loaded
