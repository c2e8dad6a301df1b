use Rattle.map_model.proofs.Logging.{end_in_history}
use Rattle.map_model.proofs.laws.logs_end_in_the_history.Goals as goal

pub returns : goal.returns
returns c = end_in_history
