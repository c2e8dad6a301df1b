use Rattle.machine_buffers.proofs.OutOfUse.{new_groups_await}
use Rattle.machine_buffers.proofs.laws.new_groups_are_open.Goals as goal

pub returns : goal.returns
returns c = new_groups_await
