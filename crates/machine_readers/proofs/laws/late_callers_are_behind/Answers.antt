use Rattle.machine_readers.proofs.FromOpening.{late}
use Rattle.machine_readers.proofs.laws.late_callers_are_behind.Goals as goal

pub returns : goal.returns
returns c = late
