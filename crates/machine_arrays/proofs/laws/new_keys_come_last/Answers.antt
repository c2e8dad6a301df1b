use Rattle.machine_arrays.proofs.Changes.{new_last}
use Rattle.machine_arrays.proofs.laws.new_keys_come_last.Goals as goal

pub returns : goal.returns
returns c = new_last
