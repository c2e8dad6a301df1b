use Rattle.map_model.proofs.Logging.{looks_end}
use Rattle.map_model.proofs.laws.looks_end_logs.Goals as goal

pub returns : goal.returns
returns c = looks_end
