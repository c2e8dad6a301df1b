use Rattle.index_machine.proofs.Refusing.{slots_wait}
use Rattle.index_machine.proofs.refusals.slots_wait_for_readers.Goals as goal

pub returns : goal.returns
returns c = slots_wait
