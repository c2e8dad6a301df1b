use Rattle.std.proofs.Common.{◌≡◌}
use Rattle.xindex_core.specs.Passes.{IsPassOf, number_of}
use Rattle.index_tests.proofs.passes_at_once.answered.Given as goal

abbrev pub invariant-loop : goal.invariant-loop
invariant-loop l =
    record {
      pass : IsPassOf l.index l.pass;
      number : number_of l.pass ≡ number_of l.initial.pass;
    }
