use Rattle.layout_model.proofs.CallChanges.{removes_change_one_part, removes_keep_rows}
use Rattle.layout_model.proofs.calls.removes_change_one_part.Goals as goal

pub returns-clause-part : goal.returns-clause-part
returns-clause-part c = removes_change_one_part

pub returns-clause-rows : goal.returns-clause-rows
returns-clause-rows c = removes_keep_rows
