use Rattle.machine_places.proofs.FromOpening.{one_live_place}
use Rattle.machine_places.proofs.laws.at_most_one_live_place.Goals as goal

pub returns : goal.returns
returns c = one_live_place
