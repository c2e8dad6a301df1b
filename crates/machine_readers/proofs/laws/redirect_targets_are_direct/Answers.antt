use Rattle.machine_readers.proofs.FormsMet.{targets_direct}
use Rattle.machine_readers.proofs.laws.redirect_targets_are_direct.Goals as goal

pub returns : goal.returns
returns c = targets_direct
