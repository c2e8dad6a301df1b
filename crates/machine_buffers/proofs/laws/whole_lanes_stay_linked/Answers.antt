use Rattle.machine_buffers.proofs.Reclaiming.{lane_stays}
use Rattle.machine_buffers.proofs.laws.whole_lanes_stay_linked.Goals as goal

pub returns : goal.returns
returns c = lane_stays
