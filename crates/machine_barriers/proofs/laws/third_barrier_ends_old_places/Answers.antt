use Rattle.machine_barriers.proofs.Barriers.{third_barrier}
use Rattle.machine_barriers.proofs.laws.third_barrier_ends_old_places.Goals as goal

pub returns : goal.returns
returns c = third_barrier
