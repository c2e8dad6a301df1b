use Rattle.machine_buffers.proofs.LaneWalks.{lane_no_return}
use Rattle.machine_buffers.proofs.laws.left_lane_links_do_not_come_back.Goals as goal

pub returns : goal.returns
returns c = lane_no_return
