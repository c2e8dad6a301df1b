use Rattle.std.proofs.Common.{◌≡◌, ◌≤◌, ◌+◌, length}
use Rattle.trace_text.specs.Counts.{later_lines_with, lines_with}
use Rattle.trace_text.proofs.counting.line_count.Given as goal

-- the lines so far were counted, no more than there are bytes before the rest, and one
abbrev pub invariant-loop-rest : goal.invariant-loop-rest
invariant-loop-rest l = record {
  counted : l.count + later_lines_with l.beginning l.rest ≡ lines_with l.beginning l.text;
  few : l.count + length l.rest ≤ length l.text + 1;
}

abbrev pub decreases-loop-rest : goal.decreases-loop-rest
decreases-loop-rest l = length l.rest
