use Rattle.index_machine.proofs.Linking.{linked}
use Rattle.index_machine.proofs.laws.free_stack_is_linked.Goals as goal

pub returns : goal.returns
returns c = linked
