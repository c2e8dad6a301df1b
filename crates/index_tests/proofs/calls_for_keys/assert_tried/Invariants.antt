use Rattle.index_tests.specs.Calls.{CanAsk}
use Rattle.index_tests.proofs.calls_for_keys.assert_tried.Given as goal

abbrev pub invariant-loop-call : goal.invariant-loop-call
invariant-loop-call g l = CanAsk l.board l.hand l.spare
