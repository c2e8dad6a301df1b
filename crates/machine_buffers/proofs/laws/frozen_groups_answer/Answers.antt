use Rattle.machine_buffers.proofs.OutOfUse.{frozen_are_chained}
use Rattle.machine_buffers.proofs.laws.frozen_groups_answer.Goals as goal

pub returns : goal.returns
returns c = frozen_are_chained
