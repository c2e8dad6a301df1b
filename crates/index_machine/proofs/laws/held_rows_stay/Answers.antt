use Rattle.index_machine.proofs.Holding.{held_rows_stay}
use Rattle.index_machine.proofs.laws.held_rows_stay.Goals as goal

pub returns : goal.returns
returns c = held_rows_stay
