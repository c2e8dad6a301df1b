use Rattle.index_machine.proofs.Refusing.{retiring_waits}
use Rattle.index_machine.proofs.refusals.retiring_waits_for_readers.Goals as goal

pub returns : goal.returns
returns c = retiring_waits
