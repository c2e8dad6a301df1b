use Rattle.machine_buffers.proofs.Walks.{walkable_while}
use Rattle.machine_buffers.proofs.laws.walkable_buffers_stay.Goals as goal

pub returns : goal.returns
returns c = walkable_while
