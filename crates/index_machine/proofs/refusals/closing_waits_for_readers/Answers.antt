use Rattle.index_machine.proofs.Refusing.{closing_waits}
use Rattle.index_machine.proofs.refusals.closing_waits_for_readers.Goals as goal

pub returns : goal.returns
returns c = closing_waits
