use Rattle.machine_readers.proofs.FromOpening.{array_tombstones}
use Rattle.machine_readers.proofs.laws.array_tombstones_stay.Goals as goal

pub returns : goal.returns
returns c = array_tombstones
