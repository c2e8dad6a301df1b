use Rattle.machine_barriers.proofs.OpenedGroups.{opened_groups_hold}
use Rattle.machine_barriers.proofs.laws.opened_groups_are_closed.Goals as goal

pub returns : goal.returns
returns c = opened_groups_hold
