use Rattle.worked_executions.proofs.SeveralGroups.{several_groups}
use Rattle.worked_executions.proofs.laws.several_groups_are_opened.Goals as goal

pub returns : goal.returns
returns c = several_groups
