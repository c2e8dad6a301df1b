use Rattle.machine_keeper.proofs.FromOpening.{side_frees}
use Rattle.machine_keeper.proofs.laws.barrier_frees_side.Goals as goal

pub returns : goal.returns
returns c = side_frees
