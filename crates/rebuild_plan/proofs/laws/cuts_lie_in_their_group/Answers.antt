use Rattle.rebuild_plan.proofs.PlanLaws.{cuts_lie}
use Rattle.rebuild_plan.proofs.laws.cuts_lie_in_their_group.Goals as goal

pub returns : goal.returns
returns c = cuts_lie
