use Rattle.machine_keeper.proofs.Roots.{may_store_unused}
use Rattle.machine_keeper.proofs.staying.may_store_unused_stays.Goals as goal

pub returns : goal.returns
returns c = may_store_unused
