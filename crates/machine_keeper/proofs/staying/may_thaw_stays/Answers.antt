use Rattle.machine_keeper.proofs.Structure.{may_thaw}
use Rattle.machine_keeper.proofs.staying.may_thaw_stays.Goals as goal

pub returns : goal.returns
returns c = may_thaw
