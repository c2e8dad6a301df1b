use Rattle.machine_readers.proofs.FromOpening.{redirects_new}
use Rattle.machine_readers.proofs.laws.new_redirects_lead_into_the_group.Goals as goal

pub returns : goal.returns
returns c = redirects_new
