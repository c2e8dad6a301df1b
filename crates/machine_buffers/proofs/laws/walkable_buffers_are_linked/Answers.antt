use Rattle.machine_buffers.proofs.Walks.{linked_buffer}
use Rattle.machine_buffers.proofs.laws.walkable_buffers_are_linked.Goals as goal

pub returns : goal.returns
returns c = linked_buffer
