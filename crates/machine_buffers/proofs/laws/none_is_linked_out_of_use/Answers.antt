use Rattle.machine_buffers.proofs.Reclaiming.{none_linked}
use Rattle.machine_buffers.proofs.laws.none_is_linked_out_of_use.Goals as goal

pub returns : goal.returns
returns c = none_linked
