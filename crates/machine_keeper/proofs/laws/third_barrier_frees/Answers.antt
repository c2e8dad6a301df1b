use Rattle.machine_keeper.proofs.FromOpening.{third_frees}
use Rattle.machine_keeper.proofs.laws.third_barrier_frees.Goals as goal

pub returns : goal.returns
returns c = third_frees
