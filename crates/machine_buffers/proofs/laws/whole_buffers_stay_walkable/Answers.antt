use Rattle.machine_buffers.proofs.Walks.{walkable_until}
use Rattle.machine_buffers.proofs.laws.whole_buffers_stay_walkable.Goals as goal

pub returns : goal.returns
returns c = walkable_until
