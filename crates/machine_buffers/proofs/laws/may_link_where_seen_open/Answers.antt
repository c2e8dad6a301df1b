use Rattle.machine_buffers.proofs.Inserting.{link_open}
use Rattle.machine_buffers.proofs.laws.may_link_where_seen_open.Goals as goal

pub returns : goal.returns
returns c = link_open
