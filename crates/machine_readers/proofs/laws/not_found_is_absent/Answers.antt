use Rattle.machine_readers.proofs.FromOpening.{not_found}
use Rattle.machine_readers.proofs.laws.not_found_is_absent.Goals as goal

pub returns : goal.returns
returns c = not_found
