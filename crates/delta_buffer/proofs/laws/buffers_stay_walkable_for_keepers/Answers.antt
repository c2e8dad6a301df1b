use Rattle.delta_buffer.proofs.Following.{stays_walkable}
use Rattle.delta_buffer.proofs.laws.buffers_stay_walkable_for_keepers.Goals as goal

pub returns : goal.returns
returns c = stays_walkable
