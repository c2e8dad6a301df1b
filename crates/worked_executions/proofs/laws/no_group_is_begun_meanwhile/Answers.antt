use Rattle.worked_executions.proofs.BegunMeanwhile.{none_begun}
use Rattle.worked_executions.proofs.laws.no_group_is_begun_meanwhile.Goals as goal

pub returns : goal.returns
returns c = none_begun
