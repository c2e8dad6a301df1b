use Rattle.xindex_core.proofs.Names.{names_settle}
use Rattle.xindex_core.proofs.laws.names_settle_the_index.Goals as goal

pub returns : goal.returns
returns c = names_settle
