use Rattle.index_machine.proofs.Refusing.{beginnings_wait}
use Rattle.index_machine.proofs.refusals.beginnings_wait_for_installs.Goals as goal

pub returns : goal.returns
returns c = beginnings_wait
