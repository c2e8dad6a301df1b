use Rattle.machine_barriers.proofs.GoneGroups.{gone_stays}
use Rattle.machine_barriers.proofs.laws.gone_groups_stay.Goals as goal

pub returns : goal.returns
returns c = gone_stays
