use Rattle.machine_keeper.proofs.Cleared.{rebuilds_clear}
use Rattle.machine_keeper.proofs.clearing.rebuilds_clear_parts.Goals as goal

pub returns : goal.returns
returns c = rebuilds_clear
