use Rattle.machine_arrays.proofs.Keys.{list_whole}
use Rattle.machine_arrays.proofs.laws.lists_of_keys_are_whole.Goals as goal

pub returns : goal.returns
returns c = list_whole
