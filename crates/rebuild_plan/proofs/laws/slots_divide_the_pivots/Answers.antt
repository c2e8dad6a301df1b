use Rattle.rebuild_plan.proofs.PlanLaws.{slots_divide}
use Rattle.rebuild_plan.proofs.laws.slots_divide_the_pivots.Goals as goal

pub returns : goal.returns
returns c = slots_divide
