use Rattle.index_machine.proofs.Refusing.{copies_locked}
use Rattle.index_machine.proofs.refusals.copies_hold_the_lock.Goals as goal

pub returns : goal.returns
returns c = copies_locked
