use Rattle.machine_readers.proofs.FromOpening.{reached_keys}
use Rattle.machine_readers.proofs.laws.reached_places_have_keys.Goals as goal

pub returns : goal.returns
returns c = reached_keys
