use Rattle.machine_buffers.proofs.Walks.{walkable_or_out}
use Rattle.machine_buffers.proofs.laws.buffers_are_walkable_or_out_of_use.Goals as goal

pub returns : goal.returns
returns c = walkable_or_out
