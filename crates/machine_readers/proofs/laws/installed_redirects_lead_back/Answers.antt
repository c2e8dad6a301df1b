use Rattle.machine_readers.proofs.FromOpening.{redirects_installed}
use Rattle.machine_readers.proofs.laws.installed_redirects_lead_back.Goals as goal

pub returns : goal.returns
returns c = redirects_installed
