use Rattle.machine_buffers.proofs.LaneWalks.{lane_decides}
use Rattle.machine_buffers.proofs.laws.lane_links_decide.Goals as goal

pub returns : goal.returns
returns c = lane_decides
