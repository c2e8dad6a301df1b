use Rattle.machine_buffers.proofs.Reclaiming.{lane_words}
use Rattle.machine_buffers.proofs.laws.walkable_buffers_have_lane_words.Goals as goal

pub returns : goal.returns
returns c = lane_words
