use Rattle.machine_barriers.proofs.GoneGroups.{replaced_alone}
use Rattle.machine_barriers.proofs.laws.replaced_groups_are_left_alone.Goals as goal

pub returns : goal.returns
returns c = replaced_alone
