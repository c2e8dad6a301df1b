use Rattle.index_machine.proofs.RepresentingAll.{represented}
use Rattle.index_machine.proofs.laws.words_stand_for_the_state.Goals as goal

pub returns : goal.returns
returns c = represented
