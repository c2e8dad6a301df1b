use Rattle.xindex_core.proofs.AllPasses.{passes_are_all}
use Rattle.xindex_core.proofs.laws.passes_in_order_are_all.Goals as goal

pub returns : goal.returns
returns c = passes_are_all
