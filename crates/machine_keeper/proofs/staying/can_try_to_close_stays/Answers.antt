use Rattle.machine_keeper.proofs.Reclaiming.{can_try_to_close}
use Rattle.machine_keeper.proofs.staying.can_try_to_close_stays.Goals as goal

pub returns : goal.returns
returns c = can_try_to_close
