use Rattle.index_machine.proofs.Placing.{placed}
use Rattle.index_machine.proofs.laws.each_row_is_in_one_place.Goals as goal

pub returns : goal.returns
returns c = placed
