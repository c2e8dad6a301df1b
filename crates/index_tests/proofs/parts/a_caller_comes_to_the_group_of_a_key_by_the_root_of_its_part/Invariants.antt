use Rattle.index_rule.specs.Calls.{CanCall}
use Rattle.index_tests.proofs.parts.a_caller_comes_to_the_group_of_a_key_by_the_root_of_its_part.Given as goal

abbrev pub invariant-loop-key : goal.invariant-loop-key
invariant-loop-key g l = CanCall l.board l.hand
