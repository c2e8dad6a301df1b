use Rattle.machine_keeper.proofs.Structure.{may_freeze}
use Rattle.machine_keeper.proofs.staying.may_freeze_stays.Goals as goal

pub returns : goal.returns
returns c = may_freeze
