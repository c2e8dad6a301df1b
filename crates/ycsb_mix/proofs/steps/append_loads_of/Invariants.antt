use Rattle.std.proofs.Common.{ℕ, List, ◌-◌, ◌+◌, ◌<◌}
use Rattle.ycsb_mix.specs.Mix.{load_calls}
use Rattle.ycsb_mix.proofs.StepLaws.{HasWritten}
use Rattle.ycsb_mix.proofs.steps.append_loads_of.Given as goal

abbrev pub invariant-loop-number : goal.invariant-loop-number
invariant-loop-number l = record {
  done : List ℕ;
  written : HasWritten load_calls l.callers l.caller l.number done l.fn.steps.items l.steps.items;
  near : l.number < l.load + l.callers;
}

abbrev pub decreases-loop-number : goal.decreases-loop-number
decreases-loop-number l = l.load - l.number
