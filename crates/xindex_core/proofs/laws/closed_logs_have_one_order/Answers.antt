use Rattle.xindex_core.proofs.AllPasses.{closed_order}
use Rattle.xindex_core.proofs.laws.closed_logs_have_one_order.Goals as goal

pub returns : goal.returns
returns c = closed_order
