-- The calls counted so far, and those of the lines that are left.
use Rattle.std.proofs.Common.{◌≡◌, ◌+◌, ◌≤◌, length}
use Rattle.caller_phases.specs.Calls.{calls_in, calls_of, first_phase}
use Rattle.caller_phases.proofs.cutting.call_count.Given as goal

abbrev pub invariant-loop-line : goal.invariant-loop-line
invariant-loop-line l =
    record {
      whole : l.count + length (calls_of l.caller l.present (first_phase l.rest))
          ≡ length (calls_in l.caller (first_phase l.lines));
      few : l.count + length (first_phase l.rest) ≤ length l.lines;
    }

abbrev pub decreases-loop-line : goal.decreases-loop-line
decreases-loop-line l = length (first_phase l.rest)
