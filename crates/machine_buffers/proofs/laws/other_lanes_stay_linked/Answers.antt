use Rattle.machine_buffers.proofs.LaneWalks.{others_stay}
use Rattle.machine_buffers.proofs.laws.other_lanes_stay_linked.Goals as goal

pub returns : goal.returns
returns c = others_stay
