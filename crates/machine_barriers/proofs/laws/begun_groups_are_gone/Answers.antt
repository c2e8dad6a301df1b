use Rattle.machine_barriers.proofs.GoneGroups.{begun_gone}
use Rattle.machine_barriers.proofs.laws.begun_groups_are_gone.Goals as goal

pub returns : goal.returns
returns c = begun_gone
