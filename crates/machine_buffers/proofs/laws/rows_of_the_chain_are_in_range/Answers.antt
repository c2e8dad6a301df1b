use Rattle.machine_buffers.proofs.Ranges.{in_stretch}
use Rattle.machine_buffers.proofs.laws.rows_of_the_chain_are_in_range.Goals as goal

pub returns : goal.returns
returns c = in_stretch
