use Rattle.worked_executions.proofs.Witness.{whole_rebuild_valid}
use Rattle.worked_executions.proofs.laws.whole_rebuild_is_valid.Goals as goal

pub returns : goal.returns
returns c = whole_rebuild_valid
