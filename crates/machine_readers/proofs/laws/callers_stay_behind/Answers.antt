use Rattle.machine_readers.proofs.FromOpening.{stay_behind}
use Rattle.machine_readers.proofs.laws.callers_stay_behind.Goals as goal

pub returns : goal.returns
returns c = stay_behind
