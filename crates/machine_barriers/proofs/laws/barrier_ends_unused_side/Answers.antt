use Rattle.machine_barriers.proofs.Barriers.{side_barrier}
use Rattle.machine_barriers.proofs.laws.barrier_ends_unused_side.Goals as goal

pub returns : goal.returns
returns c = side_barrier
