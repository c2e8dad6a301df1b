use Rattle.row_arena.proofs.UsedRows.{used_up_stay}
use Rattle.row_arena.proofs.laws.used_up_rows_stay_so.Goals as goal

pub returns : goal.returns
returns c = used_up_stay
