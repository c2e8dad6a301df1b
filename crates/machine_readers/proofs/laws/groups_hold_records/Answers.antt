use Rattle.machine_readers.proofs.FormsMet.{groups_hold}
use Rattle.machine_readers.proofs.laws.groups_hold_records.Goals as goal

pub returns : goal.returns
returns c = groups_hold
