use Rattle.machine_keeper.proofs.Opening.{may_open}
use Rattle.machine_keeper.proofs.staying.may_open_stays.Goals as goal

pub returns : goal.returns
returns c = may_open
