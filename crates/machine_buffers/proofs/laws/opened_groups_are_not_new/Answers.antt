use Rattle.machine_buffers.proofs.OutOfUse.{opened_are_not_new}
use Rattle.machine_buffers.proofs.laws.opened_groups_are_not_new.Goals as goal

pub returns : goal.returns
returns c = opened_are_not_new
