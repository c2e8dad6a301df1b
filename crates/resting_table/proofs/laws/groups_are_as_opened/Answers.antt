use Rattle.resting_table.proofs.NoRebuildLaws.{groups_as_opened}
use Rattle.resting_table.proofs.laws.groups_are_as_opened.Goals as goal

pub returns : goal.returns
returns c = groups_as_opened
