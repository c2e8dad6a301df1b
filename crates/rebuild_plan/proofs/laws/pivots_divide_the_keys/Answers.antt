use Rattle.rebuild_plan.proofs.PlanLaws.{pivots_divide}
use Rattle.rebuild_plan.proofs.laws.pivots_divide_the_keys.Goals as goal

pub returns : goal.returns
returns c = pivots_divide
