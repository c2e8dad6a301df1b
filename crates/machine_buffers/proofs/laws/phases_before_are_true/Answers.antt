use Rattle.machine_buffers.proofs.Walks.{true_before}
use Rattle.machine_buffers.proofs.laws.phases_before_are_true.Goals as goal

pub returns : goal.returns
returns c = true_before
