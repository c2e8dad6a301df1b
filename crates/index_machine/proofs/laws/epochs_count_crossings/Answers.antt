use Rattle.index_machine.proofs.Counting.{counted}
use Rattle.index_machine.proofs.laws.epochs_count_crossings.Goals as goal

pub returns : goal.returns
returns c = counted
