use Rattle.machine_buffers.proofs.Walks.{rises}
use Rattle.machine_buffers.proofs.laws.links_rise.Goals as goal

pub returns : goal.returns
returns c = rises
