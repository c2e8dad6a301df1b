use Rattle.std.proofs.Common.{ℕ, List, ◌≡◌, ◌-◌, ◌+◌, ◌<◌, length}
use Rattle.ycsb_mix.specs.Mix.{operation_calls, inserted_by}
use Rattle.ycsb_mix.proofs.StepLaws.{HasWritten}
use Rattle.ycsb_mix.proofs.steps.append_operations_of.Given as goal

abbrev pub invariant-loop-j : goal.invariant-loop-j
invariant-loop-j l = record {
  done : List ℕ;
  written : HasWritten (operation_calls l.load l.callers l.draws) l.callers l.caller l.j done
      l.fn.steps.items l.steps.items;
  own : l.own.items ≡ inserted_by l.load l.draws done;
  near : l.j < length l.draws + l.callers;
}

abbrev pub decreases-loop-j : goal.decreases-loop-j
decreases-loop-j l = length l.draws - l.j
