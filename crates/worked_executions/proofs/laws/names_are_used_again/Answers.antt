use Rattle.worked_executions.proofs.NameUsedAgain.{name_again_valid}
use Rattle.worked_executions.proofs.laws.names_are_used_again.Goals as goal

pub returns : goal.returns
returns c = name_again_valid
