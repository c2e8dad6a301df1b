use Rattle.machine_buffers.proofs.LaneWalks.{takes_place}
use Rattle.machine_buffers.proofs.laws.linked_rows_take_their_place.Goals as goal

pub returns : goal.returns
returns c = takes_place
