use Rattle.machine_buffers.proofs.Walks.{before}
use Rattle.machine_buffers.proofs.laws.buffers_before_are_walkable.Goals as goal

pub returns : goal.returns
returns c = before
