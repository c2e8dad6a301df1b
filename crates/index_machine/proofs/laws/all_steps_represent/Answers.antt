use Rattle.index_machine.proofs.RepresentingAll.{all_represent}
use Rattle.index_machine.proofs.laws.all_steps_represent.Goals as goal

pub returns : goal.returns
returns c = all_represent
