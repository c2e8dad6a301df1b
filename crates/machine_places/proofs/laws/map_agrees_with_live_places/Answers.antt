use Rattle.machine_places.proofs.FromOpening.{agreement}
use Rattle.machine_places.proofs.laws.map_agrees_with_live_places.Goals as goal

pub returns : goal.returns
returns c = agreement
