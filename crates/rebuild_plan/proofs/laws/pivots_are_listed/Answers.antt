use Rattle.rebuild_plan.proofs.PlanLaws.{pivots_listed}
use Rattle.rebuild_plan.proofs.laws.pivots_are_listed.Goals as goal

pub returns : goal.returns
returns c = pivots_listed
