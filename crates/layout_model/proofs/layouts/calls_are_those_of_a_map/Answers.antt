use Rattle.layout_model.proofs.PairLaws.{gets_look, puts_put, removes_remove}
use Rattle.layout_model.proofs.layouts.calls_are_those_of_a_map.Goals as goal

pub returns-clause-gets : goal.returns-clause-gets
returns-clause-gets c = gets_look

pub returns-clause-puts : goal.returns-clause-puts
returns-clause-puts c = puts_put

pub returns-clause-removes : goal.returns-clause-removes
returns-clause-removes c = removes_remove
