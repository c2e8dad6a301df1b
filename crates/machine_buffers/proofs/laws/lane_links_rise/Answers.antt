use Rattle.machine_buffers.proofs.LaneWalks.{lane_rises}
use Rattle.machine_buffers.proofs.laws.lane_links_rise.Goals as goal

pub returns : goal.returns
returns c = lane_rises
