use Rattle.delta_buffer.proofs.Following.{keepers_follow}
use Rattle.delta_buffer.proofs.laws.keepers_can_follow.Goals as goal

pub returns : goal.returns
returns c = keepers_follow
