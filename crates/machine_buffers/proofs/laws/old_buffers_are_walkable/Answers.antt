use Rattle.machine_buffers.proofs.Walks.{of_keeper}
use Rattle.machine_buffers.proofs.laws.old_buffers_are_walkable.Goals as goal

pub returns : goal.returns
returns c = of_keeper
