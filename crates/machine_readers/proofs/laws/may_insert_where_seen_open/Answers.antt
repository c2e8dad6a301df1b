use Rattle.machine_readers.proofs.FromOpening.{insert_open}
use Rattle.machine_readers.proofs.laws.may_insert_where_seen_open.Goals as goal

pub returns : goal.returns
returns c = insert_open
