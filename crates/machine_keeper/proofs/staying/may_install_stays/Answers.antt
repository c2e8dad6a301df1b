use Rattle.machine_keeper.proofs.Installing.{may_install}
use Rattle.machine_keeper.proofs.staying.may_install_stays.Goals as goal

pub returns : goal.returns
returns c = may_install
