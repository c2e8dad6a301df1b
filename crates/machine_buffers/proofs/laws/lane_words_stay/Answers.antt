use Rattle.machine_buffers.proofs.Reclaiming.{words_stay}
use Rattle.machine_buffers.proofs.laws.lane_words_stay.Goals as goal

pub returns : goal.returns
returns c = words_stay
