use Rattle.machine_buffers.proofs.Walks.{next_rows}
use Rattle.machine_buffers.proofs.laws.links_lead_to_the_next_row.Goals as goal

pub returns : goal.returns
returns c = next_rows
