use Rattle.machine_barriers.proofs.Barriers.{first_barrier}
use Rattle.machine_barriers.proofs.laws.first_barrier_ends_inserts.Goals as goal

pub returns : goal.returns
returns c = first_barrier
