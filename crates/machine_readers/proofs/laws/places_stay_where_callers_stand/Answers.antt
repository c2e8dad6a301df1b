use Rattle.machine_readers.proofs.FromOpening.{places_stay}
use Rattle.machine_readers.proofs.laws.places_stay_where_callers_stand.Goals as goal

pub returns : goal.returns
returns c = places_stay
