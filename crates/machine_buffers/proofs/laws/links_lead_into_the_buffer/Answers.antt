use Rattle.machine_buffers.proofs.Walks.{into_buffer}
use Rattle.machine_buffers.proofs.laws.links_lead_into_the_buffer.Goals as goal

pub returns : goal.returns
returns c = into_buffer
