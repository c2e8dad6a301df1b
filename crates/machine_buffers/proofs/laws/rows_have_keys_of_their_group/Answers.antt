use Rattle.machine_buffers.proofs.Ranges.{in_range}
use Rattle.machine_buffers.proofs.laws.rows_have_keys_of_their_group.Goals as goal

pub returns : goal.returns
returns c = in_range
