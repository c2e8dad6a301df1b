use Rattle.machine_keeper.proofs.Merging.{merged_keys_stay}
use Rattle.machine_keeper.proofs.staying.merged_keys_stay.Goals as goal

pub returns : goal.returns
returns c = merged_keys_stay
