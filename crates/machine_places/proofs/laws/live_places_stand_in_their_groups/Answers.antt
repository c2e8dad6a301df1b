use Rattle.machine_places.proofs.FromOpening.{live_places}
use Rattle.machine_places.proofs.laws.live_places_stand_in_their_groups.Goals as goal

pub returns : goal.returns
returns c = live_places
