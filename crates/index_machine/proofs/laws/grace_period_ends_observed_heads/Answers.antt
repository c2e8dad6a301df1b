use Rattle.index_machine.proofs.GracePeriods.{ends_observed_head}
use Rattle.index_machine.proofs.laws.grace_period_ends_observed_heads.Goals as goal

pub returns : goal.returns
returns c = ends_observed_head
