use Rattle.map_model.proofs.Logging.{changes_end}
use Rattle.map_model.proofs.laws.changes_end_logs.Goals as goal

pub returns : goal.returns
returns c = changes_end
