use Rattle.index_machine.proofs.Refusing.{installs_merge}
use Rattle.index_machine.proofs.refusals.installs_merge_live_places.Goals as goal

pub returns : goal.returns
returns c = installs_merge
