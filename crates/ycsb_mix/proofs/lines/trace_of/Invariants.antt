use Rattle.std.proofs.Common.{◌≡◌, map, take}
use Rattle.std.specs.List.{filter}
use Rattle.trace_text.specs.Traces.{is_told}
use Rattle.ycsb_mix.specs.Mix.{said_by}
use Rattle.ycsb_mix.proofs.lines.trace_of.Given as goal

-- what the steps so far say was kept
abbrev pub invariant-loop-step : goal.invariant-loop-step
invariant-loop-step l = l.trace ≡ filter is_told (map said_by (take l.step-index l.steps))
