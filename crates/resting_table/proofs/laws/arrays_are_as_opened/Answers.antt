use Rattle.resting_table.proofs.NoRebuildLaws.{arrays_as_opened}
use Rattle.resting_table.proofs.laws.arrays_are_as_opened.Goals as goal

pub returns : goal.returns
returns c = arrays_as_opened
