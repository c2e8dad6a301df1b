use Rattle.machine_buffers.proofs.BegunLanes.{cuts_rise}
use Rattle.machine_buffers.proofs.laws.cuts_rise.Goals as goal

pub returns : goal.returns
returns c = cuts_rise
