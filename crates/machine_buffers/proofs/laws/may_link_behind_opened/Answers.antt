use Rattle.machine_buffers.proofs.Inserting.{link_behind_opened}
use Rattle.machine_buffers.proofs.laws.may_link_behind_opened.Goals as goal

pub returns : goal.returns
returns c = link_behind_opened
