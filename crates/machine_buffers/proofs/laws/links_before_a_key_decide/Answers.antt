use Rattle.machine_buffers.proofs.Walks.{decide}
use Rattle.machine_buffers.proofs.laws.links_before_a_key_decide.Goals as goal

pub returns : goal.returns
returns c = decide
