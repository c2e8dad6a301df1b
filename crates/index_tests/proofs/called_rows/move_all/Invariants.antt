use Rattle.xindex_core.specs.OneOrder.{IsPassOfCaller}
use Rattle.index_tests.proofs.called_rows.move_all.Given as goal

abbrev pub invariant-loop-key : goal.invariant-loop-key
invariant-loop-key g l = IsPassOfCaller l.index l.caller l.pass
