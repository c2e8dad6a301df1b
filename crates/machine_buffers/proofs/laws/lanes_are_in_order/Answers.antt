use Rattle.machine_buffers.proofs.BegunLanes.{in_order}
use Rattle.machine_buffers.proofs.laws.lanes_are_in_order.Goals as goal

pub returns : goal.returns
returns c = in_order
