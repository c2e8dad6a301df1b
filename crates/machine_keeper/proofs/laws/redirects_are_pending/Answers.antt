use Rattle.machine_keeper.proofs.FromOpening.{all_pending}
use Rattle.machine_keeper.proofs.laws.redirects_are_pending.Goals as goal

pub returns : goal.returns
returns c = all_pending
