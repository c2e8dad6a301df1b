use Rattle.std.proofs.Common.{◌≡◌, ◌+◌, ◌≤◌, length}
use Rattle.std.specs.List.{filter}
use Rattle.xindex.specs.Generated.{is_call}
use Rattle.xindex.proofs.summary.call_count.Given as goal

-- the calls so far were counted, and those of the lines that are left are still to come
abbrev pub invariant-loop-line : goal.invariant-loop-line
invariant-loop-line l = record {
  counted : l.count + length (filter is_call l.lines) ≡ length (filter is_call l.trace);
  few : l.count + length l.lines ≤ length l.trace;
}

abbrev pub decreases-loop-line : goal.decreases-loop-line
decreases-loop-line l = length l.lines
