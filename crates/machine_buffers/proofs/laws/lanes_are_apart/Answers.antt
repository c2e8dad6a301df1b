use Rattle.machine_buffers.proofs.BegunLanes.{lanes_apart}
use Rattle.machine_buffers.proofs.laws.lanes_are_apart.Goals as goal

pub returns : goal.returns
returns c = lanes_apart
