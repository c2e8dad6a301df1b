use Rattle.index_tests.specs.Boards.{IsInside}
use Rattle.index_tests.proofs.lanes.assert_only_in.Given as goal

abbrev pub invariant-loop-i : goal.invariant-loop-i
invariant-loop-i g l = IsInside l.board l.number l.hand
