use Rattle.xindex_core.specs.Passes.{IsPassOf}
use Rattle.index_tests.proofs.passes_at_once.assert_gets.Given as goal

abbrev pub invariant-loop-key : goal.invariant-loop-key
invariant-loop-key g l = IsPassOf l.index l.pass
