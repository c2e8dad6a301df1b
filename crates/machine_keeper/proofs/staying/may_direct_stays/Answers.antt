use Rattle.machine_keeper.proofs.Copying.{may_direct}
use Rattle.machine_keeper.proofs.staying.may_direct_stays.Goals as goal

pub returns : goal.returns
returns c = may_direct
