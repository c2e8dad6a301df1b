use Rattle.xindex_core.specs.Passes.{IsPassOf}
use Rattle.index_tests.proofs.example.put.Given as goal

abbrev pub invariant-loop : goal.invariant-loop
invariant-loop l = IsPassOf l.index l.pass
