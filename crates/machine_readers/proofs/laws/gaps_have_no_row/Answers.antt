use Rattle.machine_readers.proofs.FromOpening.{gaps}
use Rattle.machine_readers.proofs.laws.gaps_have_no_row.Goals as goal

pub returns : goal.returns
returns c = gaps
