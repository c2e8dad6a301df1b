use Rattle.rebuild_plan.proofs.PlanLaws.{cuts_divide}
use Rattle.rebuild_plan.proofs.laws.cuts_divide_the_keys.Goals as goal

pub returns : goal.returns
returns c = cuts_divide
