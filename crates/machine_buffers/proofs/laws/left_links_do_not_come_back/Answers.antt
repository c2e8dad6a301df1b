use Rattle.machine_buffers.proofs.Walks.{no_return}
use Rattle.machine_buffers.proofs.laws.left_links_do_not_come_back.Goals as goal

pub returns : goal.returns
returns c = no_return
