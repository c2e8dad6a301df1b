use Rattle.machine_barriers.proofs.Reaches.{outside}
use Rattle.machine_barriers.proofs.laws.callers_outside_rely_on_nothing.Goals as goal

pub returns : goal.returns
returns c = outside
