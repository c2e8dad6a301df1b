use Rattle.std.proofs.Common.{◌≡◌, ◌++◌, ◌∷◌, []}
use Rattle.std.specs.List.{flat_map, range_with_len}
use Rattle.ycsb_mix.specs.declared.mixes.Step.TheVariants as step
use Rattle.ycsb_mix.specs.Mix.{load_calls, caller_steps}
use Rattle.ycsb_mix.proofs.steps.append_load.Given as goal

abbrev pub invariant-loop-caller : goal.invariant-loop-caller
invariant-loop-caller l =
    l.steps.items ≡ l.fn.steps.items ++ step.Phase ∷ []
    ++ flat_map (caller_steps load_calls l.callers l.load) (range_with_len 0 l.caller)
