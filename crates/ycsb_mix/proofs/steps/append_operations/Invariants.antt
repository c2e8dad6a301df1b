use Rattle.std.proofs.Common.{◌≡◌, ◌++◌, ◌∷◌, [], length}
use Rattle.std.specs.List.{flat_map, range_with_len}
use Rattle.ycsb_mix.specs.declared.mixes.Step.TheVariants as step
use Rattle.ycsb_mix.specs.Mix.{operation_calls, caller_steps}
use Rattle.ycsb_mix.proofs.steps.append_operations.Given as goal

abbrev pub invariant-loop-caller : goal.invariant-loop-caller
invariant-loop-caller l =
    l.steps.items ≡ l.fn.steps.items ++ step.Phase ∷ []
    ++ flat_map (caller_steps (operation_calls l.load l.callers l.draws) l.callers (length l.draws))
    (range_with_len 0 l.caller)
