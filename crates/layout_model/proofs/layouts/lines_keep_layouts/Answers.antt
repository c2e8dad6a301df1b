use Rattle.layout_model.proofs.SoundReplays.{lines_keep, replays_keep}
use Rattle.layout_model.proofs.layouts.lines_keep_layouts.Goals as goal

pub returns-clause-lines : goal.returns-clause-lines
returns-clause-lines c = lines_keep

pub returns-clause-replays : goal.returns-clause-replays
returns-clause-replays c = replays_keep
