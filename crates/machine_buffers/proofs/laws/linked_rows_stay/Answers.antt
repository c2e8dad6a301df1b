use Rattle.machine_buffers.proofs.Walks.{rows_stay}
use Rattle.machine_buffers.proofs.laws.linked_rows_stay.Goals as goal

pub returns : goal.returns
returns c = rows_stay
