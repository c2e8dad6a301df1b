use Rattle.machine_buffers.proofs.Reclaiming.{linked_rows_have_lanes}
use Rattle.machine_buffers.proofs.laws.linked_rows_have_lanes.Goals as goal

pub returns : goal.returns
returns c = linked_rows_have_lanes
