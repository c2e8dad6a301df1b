use Rattle.linearization.proofs.WholeLogs.{logs-stand}
use Rattle.linearization.proofs.laws.logs_stand_in_the_weave.Goals as goal

pub returns : goal.returns
returns c = logs-stand
