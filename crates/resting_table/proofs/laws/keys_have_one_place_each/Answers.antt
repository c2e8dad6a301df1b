use Rattle.resting_table.proofs.NoRebuildLaws.{one_place_each}
use Rattle.resting_table.proofs.laws.keys_have_one_place_each.Goals as goal

pub returns : goal.returns
returns c = one_place_each
