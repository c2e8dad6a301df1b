use Rattle.machine_readers.proofs.FromOpening.{reached_stay}
use Rattle.machine_readers.proofs.laws.reached_places_stay.Goals as goal

pub returns : goal.returns
returns c = reached_stay
