use Rattle.index_machine.proofs.Refusing.{opening_waits}
use Rattle.index_machine.proofs.refusals.opening_waits_for_inserters.Goals as goal

pub returns : goal.returns
returns c = opening_waits
