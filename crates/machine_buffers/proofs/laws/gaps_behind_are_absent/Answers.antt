use Rattle.machine_buffers.proofs.Inserting.{gap_behind_absent}
use Rattle.machine_buffers.proofs.laws.gaps_behind_are_absent.Goals as goal

pub returns : goal.returns
returns c = gap_behind_absent
