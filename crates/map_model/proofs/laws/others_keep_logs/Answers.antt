use Rattle.map_model.proofs.Logging.{others_keep}
use Rattle.map_model.proofs.laws.others_keep_logs.Goals as goal

pub returns : goal.returns
returns c = others_keep
