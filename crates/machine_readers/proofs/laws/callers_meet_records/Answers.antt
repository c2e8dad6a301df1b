use Rattle.machine_readers.proofs.FormsMet.{callers_meet}
use Rattle.machine_readers.proofs.laws.callers_meet_records.Goals as goal

pub returns : goal.returns
returns c = callers_meet
