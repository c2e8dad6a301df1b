use Rattle.machine_barriers.proofs.GoneGroups.{unopened_alone}
use Rattle.machine_barriers.proofs.laws.unopened_groups_are_left_alone.Goals as goal

pub returns : goal.returns
returns c = unopened_alone
