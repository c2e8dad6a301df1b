use Rattle.machine_readers.proofs.FromOpening.{versions}
use Rattle.machine_readers.proofs.laws.equal_versions_enclose_the_value.Goals as goal

pub returns : goal.returns
returns c = versions
