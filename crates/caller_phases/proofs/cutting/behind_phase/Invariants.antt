-- What comes behind the first phase is among the lines that are left.
use Rattle.std.proofs.Common.{◌≡◌, ◌≤◌, length}
use Rattle.caller_phases.specs.Calls.{later_phases}
use Rattle.caller_phases.proofs.cutting.behind_phase.Given as goal

abbrev pub invariant-loop-line : goal.invariant-loop-line
invariant-loop-line l =
    record {
      later : later_phases l.rest ≡ later_phases l.lines;
      few : length l.rest ≤ length l.lines;
    }

abbrev pub decreases-loop-line : goal.decreases-loop-line
decreases-loop-line l = length l.rest
