use Rattle.machine_keeper.proofs.FromOpening.{locks_stay}
use Rattle.machine_keeper.proofs.laws.locks_stay.Goals as goal

pub returns : goal.returns
returns c = locks_stay
