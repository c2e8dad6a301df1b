use Rattle.xindex_core.proofs.AloneSteps.{alone_on, answers_alone, own_back, seen_is}
use Rattle.xindex_core.proofs.laws.callers_alone_tell_the_map.Goals as goal

pub returns : goal.returns
returns c l old call answer new was does own = (
  alone_on l old call answer new was does,
  own_back old call answer new does own,
  answers_alone l old call answer new was does own,
  seen_is l new (alone_on l old call answer new was does) own,
)
