use Rattle.machine_places.proofs.RowCounts.{linked_rows}
use Rattle.machine_places.proofs.laws.linked_rows_are_inserts.Goals as goal

pub returns : goal.returns
returns c = linked_rows
