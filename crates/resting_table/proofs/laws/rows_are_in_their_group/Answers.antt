use Rattle.resting_table.proofs.NoRebuildLaws.{rows_in_group}
use Rattle.resting_table.proofs.laws.rows_are_in_their_group.Goals as goal

pub returns : goal.returns
returns c = rows_in_group
