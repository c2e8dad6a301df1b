use Rattle.machine_keeper.proofs.Reclaiming.{may_retire}
use Rattle.machine_keeper.proofs.staying.may_retire_stays.Goals as goal

pub returns : goal.returns
returns c = may_retire
