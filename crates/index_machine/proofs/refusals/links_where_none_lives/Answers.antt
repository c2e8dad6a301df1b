use Rattle.index_machine.proofs.Refusing.{links_where_none_lives}
use Rattle.index_machine.proofs.refusals.links_where_none_lives.Goals as goal

pub returns : goal.returns
returns c = links_where_none_lives
