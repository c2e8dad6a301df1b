use Rattle.machine_keeper.proofs.Beginning.{can_begin}
use Rattle.machine_keeper.proofs.staying.can_begin_stays.Goals as goal

pub returns : goal.returns
returns c = can_begin
