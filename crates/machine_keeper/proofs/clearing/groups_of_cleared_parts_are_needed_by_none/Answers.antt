use Rattle.machine_keeper.proofs.Cleared.{needed_by_none}
use Rattle.machine_keeper.proofs.clearing.groups_of_cleared_parts_are_needed_by_none.Goals as goal

pub returns : goal.returns
returns c = needed_by_none
