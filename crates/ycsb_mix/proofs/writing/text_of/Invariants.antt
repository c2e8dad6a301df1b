use Rattle.std.proofs.Common.{◌≡◌, take}
use Rattle.std.specs.List.{flat_map}
use Rattle.ycsb_mix.specs.Mix.{line_of}
use Rattle.ycsb_mix.proofs.writing.text_of.Given as goal

-- the lines of the steps so far
abbrev pub invariant-loop-step : goal.invariant-loop-step
invariant-loop-step l = l.text.items ≡ flat_map line_of (take l.step-index l.steps)
