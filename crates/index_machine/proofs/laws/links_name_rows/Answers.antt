use Rattle.index_machine.proofs.Linking.{links_fit}
use Rattle.index_machine.proofs.laws.links_name_rows.Goals as goal

pub returns : goal.returns
returns c = links_fit
