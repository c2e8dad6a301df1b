use Rattle.machine_keeper.proofs.Merging.{merged_live_places}
use Rattle.machine_keeper.proofs.staying.live_places_of_merged_keys.Goals as goal

pub returns : goal.returns
returns c = merged_live_places
