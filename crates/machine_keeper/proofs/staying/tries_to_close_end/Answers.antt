use Rattle.machine_keeper.proofs.Reclaiming.{tries_to_close}
use Rattle.machine_keeper.proofs.staying.tries_to_close_end.Goals as goal

pub returns : goal.returns
returns c = tries_to_close
