use Rattle.machine_keeper.proofs.FromOpening.{first_closes}
use Rattle.machine_keeper.proofs.laws.first_barrier_closes.Goals as goal

pub returns : goal.returns
returns c = first_closes
