use Rattle.machine_keeper.proofs.Cleared.{cleared_at_first}
use Rattle.machine_keeper.proofs.clearing.parts_are_cleared_at_first.Goals as goal

pub returns : goal.returns
returns c = cleared_at_first
