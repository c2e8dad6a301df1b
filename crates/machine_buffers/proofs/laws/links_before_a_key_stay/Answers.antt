use Rattle.machine_buffers.proofs.Walks.{stay_before}
use Rattle.machine_buffers.proofs.laws.links_before_a_key_stay.Goals as goal

pub returns : goal.returns
returns c = stay_before
