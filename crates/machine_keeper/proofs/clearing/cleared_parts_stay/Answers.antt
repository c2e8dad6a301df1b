use Rattle.machine_keeper.proofs.Cleared.{cleared_on}
use Rattle.machine_keeper.proofs.clearing.cleared_parts_stay.Goals as goal

pub returns : goal.returns
returns c = cleared_on
