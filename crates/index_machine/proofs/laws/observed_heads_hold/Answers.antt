use Rattle.index_machine.proofs.Observing.{heads_hold}
use Rattle.index_machine.proofs.laws.observed_heads_hold.Goals as goal

pub returns : goal.returns
returns c = heads_hold
