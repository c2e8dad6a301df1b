use Rattle.machine_arrays.proofs.Keys.{list_rises}
use Rattle.machine_arrays.proofs.laws.lists_of_keys_rise.Goals as goal

pub returns : goal.returns
returns c = list_rises
