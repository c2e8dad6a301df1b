use Rattle.machine_keeper.proofs.Roots.{may_store_root}
use Rattle.machine_keeper.proofs.staying.may_store_root_stays.Goals as goal

pub returns : goal.returns
returns c = may_store_root
