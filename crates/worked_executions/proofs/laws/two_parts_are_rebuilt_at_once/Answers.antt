use Rattle.worked_executions.proofs.TwoInstalls.{two_parts_rebuilt}
use Rattle.worked_executions.proofs.laws.two_parts_are_rebuilt_at_once.Goals as goal

pub returns : goal.returns
returns c = two_parts_rebuilt
