use Rattle.machine_places.proofs.FromOpening.{legal}
use Rattle.machine_places.proofs.laws.histories_are_legal.Goals as goal

pub returns : goal.returns
returns c = legal
