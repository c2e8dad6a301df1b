use Rattle.machine_buffers.proofs.Walks.{of_keys}
use Rattle.machine_buffers.proofs.laws.buffers_of_keys_are_walkable.Goals as goal

pub returns : goal.returns
returns c = of_keys
