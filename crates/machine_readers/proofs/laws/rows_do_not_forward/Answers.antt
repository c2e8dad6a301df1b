use Rattle.machine_readers.proofs.FormsMet.{rows_stay}
use Rattle.machine_readers.proofs.laws.rows_do_not_forward.Goals as goal

pub returns : goal.returns
returns c = rows_stay
