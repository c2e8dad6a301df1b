use Rattle.machine_keeper.proofs.Filling.{may_redirect}
use Rattle.machine_keeper.proofs.staying.may_redirect_stays.Goals as goal

pub returns : goal.returns
returns c = may_redirect
