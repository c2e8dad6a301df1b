use Rattle.machine_arrays.proofs.Keys.{list_fits}
use Rattle.machine_arrays.proofs.laws.lists_of_keys_fit.Goals as goal

pub returns : goal.returns
returns c = list_fits
