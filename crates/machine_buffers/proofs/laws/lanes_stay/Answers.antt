use Rattle.machine_buffers.proofs.BegunLanes.{lanes_while}
use Rattle.machine_buffers.proofs.laws.lanes_stay.Goals as goal

pub returns : goal.returns
returns c = lanes_while
