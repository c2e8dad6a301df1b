use Rattle.machine_buffers.proofs.BegunLanes.{rows_have_lanes}
use Rattle.machine_buffers.proofs.laws.rows_have_lanes.Goals as goal

pub returns : goal.returns
returns c = rows_have_lanes
