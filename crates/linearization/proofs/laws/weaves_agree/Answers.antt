use Rattle.linearization.proofs.Agreeing.{weaves-agree}
use Rattle.linearization.proofs.laws.weaves_agree.Goals as goal

pub returns : goal.returns
returns c = weaves-agree
