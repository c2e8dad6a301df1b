use Rattle.index_rule.proofs.Moments.{moments_within}
use Rattle.index_rule.proofs.laws.moments_lie_within.Goals as goal

pub returns : goal.returns
returns c = moments_within
