use Rattle.machine_keeper.proofs.Copying.{may_move}
use Rattle.machine_keeper.proofs.staying.may_move_stays.Goals as goal

pub returns : goal.returns
returns c = may_move
