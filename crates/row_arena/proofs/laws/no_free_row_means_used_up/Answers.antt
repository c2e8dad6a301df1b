use Rattle.row_arena.proofs.UsedRows.{no_free_row}
use Rattle.row_arena.proofs.laws.no_free_row_means_used_up.Goals as goal

pub returns : goal.returns
returns c = no_free_row
