use Rattle.linearization.proofs.OwnEntries.{others-have-none}
use Rattle.linearization.proofs.laws.others_have_no_entry.Goals as goal

pub returns : goal.returns
returns c = others-have-none
