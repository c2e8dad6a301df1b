use Rattle.xindex_core.specs.OneOrder.{IsPassOfCaller}
use Rattle.index_tests.proofs.passes_at_once.calls.Given as goal

abbrev pub invariant-loop-round : goal.invariant-loop-round
invariant-loop-round l = IsPassOfCaller l.index l.caller l.pass
