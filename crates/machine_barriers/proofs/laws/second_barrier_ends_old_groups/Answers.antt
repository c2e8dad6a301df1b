use Rattle.machine_barriers.proofs.Barriers.{second_barrier}
use Rattle.machine_barriers.proofs.laws.second_barrier_ends_old_groups.Goals as goal

pub returns : goal.returns
returns c = second_barrier
