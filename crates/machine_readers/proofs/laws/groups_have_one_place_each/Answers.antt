use Rattle.machine_readers.proofs.FromOpening.{one_place_each}
use Rattle.machine_readers.proofs.laws.groups_have_one_place_each.Goals as goal

pub returns : goal.returns
returns c = one_place_each
