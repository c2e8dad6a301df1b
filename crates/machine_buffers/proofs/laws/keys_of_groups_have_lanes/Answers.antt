use Rattle.machine_buffers.proofs.BegunLanes.{keys_have_lanes}
use Rattle.machine_buffers.proofs.laws.keys_of_groups_have_lanes.Goals as goal

pub returns : goal.returns
returns c = keys_have_lanes
