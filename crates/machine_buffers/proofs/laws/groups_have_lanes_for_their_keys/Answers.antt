use Rattle.machine_buffers.proofs.Cuts.{lanes_for_keys}
use Rattle.machine_buffers.proofs.laws.groups_have_lanes_for_their_keys.Goals as goal

pub returns : goal.returns
returns c = lanes_for_keys
