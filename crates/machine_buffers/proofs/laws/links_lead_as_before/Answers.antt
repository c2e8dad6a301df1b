use Rattle.machine_buffers.proofs.Reclaiming.{as_before}
use Rattle.machine_buffers.proofs.laws.links_lead_as_before.Goals as goal

pub returns : goal.returns
returns c = as_before
