use Rattle.machine_buffers.proofs.Walks.{true_of_keys}
use Rattle.machine_buffers.proofs.laws.phases_of_keys_are_true.Goals as goal

pub returns : goal.returns
returns c = true_of_keys
