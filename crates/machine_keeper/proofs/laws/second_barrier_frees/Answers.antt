use Rattle.machine_keeper.proofs.FromOpening.{second_frees}
use Rattle.machine_keeper.proofs.laws.second_barrier_frees.Goals as goal

pub returns : goal.returns
returns c = second_frees
