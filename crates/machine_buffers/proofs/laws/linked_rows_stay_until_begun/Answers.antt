use Rattle.machine_buffers.proofs.Walks.{rows_until}
use Rattle.machine_buffers.proofs.laws.linked_rows_stay_until_begun.Goals as goal

pub returns : goal.returns
returns c = rows_until
