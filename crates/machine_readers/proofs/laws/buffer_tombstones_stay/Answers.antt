use Rattle.machine_readers.proofs.FromOpening.{buffer_tombstones}
use Rattle.machine_readers.proofs.laws.buffer_tombstones_stay.Goals as goal

pub returns : goal.returns
returns c = buffer_tombstones
