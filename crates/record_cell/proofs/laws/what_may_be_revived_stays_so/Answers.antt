use Rattle.record_cell.proofs.Revivable.{stays_revivable}
use Rattle.record_cell.proofs.laws.what_may_be_revived_stays_so.Goals as goal

pub returns : goal.returns
returns c = stays_revivable
