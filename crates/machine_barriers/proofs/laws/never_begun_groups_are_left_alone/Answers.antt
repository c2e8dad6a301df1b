use Rattle.machine_barriers.proofs.GoneGroups.{never_begun_alone}
use Rattle.machine_barriers.proofs.laws.never_begun_groups_are_left_alone.Goals as goal

pub returns : goal.returns
returns c = never_begun_alone
