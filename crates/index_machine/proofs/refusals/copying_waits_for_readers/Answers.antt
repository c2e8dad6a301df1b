use Rattle.index_machine.proofs.Refusing.{copying_waits}
use Rattle.index_machine.proofs.refusals.copying_waits_for_readers.Goals as goal

pub returns : goal.returns
returns c = copying_waits
