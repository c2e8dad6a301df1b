use Rattle.xindex_core.specs.Passes.{IsPassOf}
use Rattle.index_tests.proofs.parts.both_callers_put_read_and_remove_keys_of_both_parts.Given as goal

abbrev pub invariant-loop-key : goal.invariant-loop-key
invariant-loop-key g l =
    record { first : IsPassOf l.index l.first; second : IsPassOf l.index l.second }
