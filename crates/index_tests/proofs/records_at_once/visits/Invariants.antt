use Rattle.index_tests.specs.Boards.{Rests}
use Rattle.index_tests.proofs.records_at_once.visits.Given as goal

abbrev pub invariant-loop-round : goal.invariant-loop-round
invariant-loop-round g l = Rests l.board l.caller l.hand
