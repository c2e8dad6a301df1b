use Rattle.machine_readers.proofs.FromOpening.{versions_count_changes}
use Rattle.machine_readers.proofs.laws.versions_count_changes.Goals as goal

pub returns : goal.returns
returns c = versions_count_changes
