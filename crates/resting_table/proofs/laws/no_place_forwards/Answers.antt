use Rattle.resting_table.proofs.NoRebuildLaws.{in_place}
use Rattle.resting_table.proofs.laws.no_place_forwards.Goals as goal

pub returns : goal.returns
returns c = in_place
