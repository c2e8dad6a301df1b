use Rattle.machine_readers.proofs.FromOpening.{without_value}
use Rattle.machine_readers.proofs.laws.places_without_value_stay.Goals as goal

pub returns : goal.returns
returns c = without_value
