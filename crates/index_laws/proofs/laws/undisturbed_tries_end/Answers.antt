use Rattle.index_laws.proofs.Undisturbed.{undisturbed_end}
use Rattle.index_laws.proofs.laws.undisturbed_tries_end.Goals as goal

pub returns : goal.returns
returns c = undisturbed_end
