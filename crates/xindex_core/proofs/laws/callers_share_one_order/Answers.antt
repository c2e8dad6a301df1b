use Rattle.xindex_core.proofs.OneOrder.{one_order}
use Rattle.xindex_core.proofs.laws.callers_share_one_order.Goals as goal

pub returns : goal.returns
returns c = one_order
