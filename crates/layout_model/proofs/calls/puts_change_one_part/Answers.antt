use Rattle.layout_model.proofs.CallChanges.{puts_change_one_part, puts_take_rows}
use Rattle.layout_model.proofs.calls.puts_change_one_part.Goals as goal

pub returns-clause-part : goal.returns-clause-part
returns-clause-part c = puts_change_one_part

pub returns-clause-rows : goal.returns-clause-rows
returns-clause-rows c = puts_take_rows
