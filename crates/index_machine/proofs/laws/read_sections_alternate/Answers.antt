use Rattle.index_machine.proofs.Counting.{sections_alternate}
use Rattle.index_machine.proofs.laws.read_sections_alternate.Goals as goal

pub returns : goal.returns
returns c = sections_alternate
