use Rattle.machine_buffers.proofs.BegunLanes.{no_gaps}
use Rattle.machine_buffers.proofs.laws.lanes_have_no_gaps.Goals as goal

pub returns : goal.returns
returns c = no_gaps
