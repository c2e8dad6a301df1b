use Rattle.index_machine.proofs.Refusing.{revives_in_buffers}
use Rattle.index_machine.proofs.refusals.revives_in_buffers_alone.Goals as goal

pub returns : goal.returns
returns c = revives_in_buffers
