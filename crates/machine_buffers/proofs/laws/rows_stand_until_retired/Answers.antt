use Rattle.machine_buffers.proofs.Reclaiming.{row_stands}
use Rattle.machine_buffers.proofs.laws.rows_stand_until_retired.Goals as goal

pub returns : goal.returns
returns c = row_stands
