use Rattle.machine_buffers.proofs.BegunLanes.{until_begun}
use Rattle.machine_buffers.proofs.laws.lanes_stay_until_begun.Goals as goal

pub returns : goal.returns
returns c = until_begun
