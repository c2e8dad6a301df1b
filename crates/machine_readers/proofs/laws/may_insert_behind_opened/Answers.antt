use Rattle.machine_readers.proofs.FromOpening.{insert_behind}
use Rattle.machine_readers.proofs.laws.may_insert_behind_opened.Goals as goal

pub returns : goal.returns
returns c = insert_behind
