use Rattle.caller_phases.proofs.Enough.{enough_refuses_nothing}
use Rattle.caller_phases.proofs.laws.enough_refuses_nothing.Goals as goal

pub returns : goal.returns
returns c = enough_refuses_nothing
