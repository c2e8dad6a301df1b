use Rattle.caller_phases.proofs.Closed.{all_is_known}
use Rattle.caller_phases.proofs.laws.what_all_know_is_all.Goals as goal

pub returns : goal.returns
returns c = all_is_known
