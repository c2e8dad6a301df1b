use Rattle.machine_readers.proofs.FromOpening.{redirects_old}
use Rattle.machine_readers.proofs.laws.redirects_lead_to_old_places.Goals as goal

pub returns : goal.returns
returns c = redirects_old
