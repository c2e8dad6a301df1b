use Rattle.index_machine.proofs.Refusing.{pushes_wait}
use Rattle.index_machine.proofs.refusals.pushes_wait_for_readers.Goals as goal

pub returns : goal.returns
returns c = pushes_wait
