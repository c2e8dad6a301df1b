use Rattle.index_tests.specs.Boards.{IsInside}
use Rattle.index_tests.proofs.arrays.assert_array.Given as goal

abbrev pub invariant-loop-key : goal.invariant-loop-key
invariant-loop-key g l = IsInside l.board 0 l.hand
