use Rattle.machine_buffers.proofs.Walks.{phases_while}
use Rattle.machine_buffers.proofs.laws.true_phases_stay.Goals as goal

pub returns : goal.returns
returns c = phases_while
