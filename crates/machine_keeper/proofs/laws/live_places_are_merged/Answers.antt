use Rattle.machine_keeper.proofs.FromOpening.{merged_places}
use Rattle.machine_keeper.proofs.laws.live_places_are_merged.Goals as goal

pub returns : goal.returns
returns c = merged_places
