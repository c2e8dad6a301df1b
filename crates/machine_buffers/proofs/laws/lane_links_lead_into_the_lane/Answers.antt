use Rattle.machine_buffers.proofs.LaneWalks.{into_lane}
use Rattle.machine_buffers.proofs.laws.lane_links_lead_into_the_lane.Goals as goal

pub returns : goal.returns
returns c = into_lane
