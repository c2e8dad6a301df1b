use Rattle.machine_keeper.proofs.Copying.{may_copy}
use Rattle.machine_keeper.proofs.staying.may_copy_stays.Goals as goal

pub returns : goal.returns
returns c = may_copy
