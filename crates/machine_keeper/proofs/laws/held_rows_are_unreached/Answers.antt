use Rattle.machine_keeper.proofs.FromOpening.{unreached}
use Rattle.machine_keeper.proofs.laws.held_rows_are_unreached.Goals as goal

pub returns : goal.returns
returns c = unreached
