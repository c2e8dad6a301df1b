-- The phases so far were run, and those of the lines that are left are still to come.
use Rattle.std.proofs.Common.{◌≡◌, ◌+◌, ◌≤◌, ◌++◌, [], List, length, replicate}
use Rattle.trace_text.specs.declared.lines.Line.{Line}
use Rattle.xindex_core.specs.Passes.{limits_of_index}
use Rattle.caller_phases.specs.Calls.{phases_of}
use Rattle.caller_phases.proofs.Cuts.{lines_left, phases_left}
use Rattle.caller_phases.proofs.Running.{HaveRun}
use Rattle.caller_phases.proofs.phases.run_all.Given as goal

abbrev pub invariant-loop-left : goal.invariant-loop-left
invariant-loop-left g l =
    record {
      done : List (List Line);
      whole : done ++ phases_left l.left ≡ phases_of l.trace;
      few : l.number + lines_left l.left ≤ length l.trace + 1;
      run : HaveRun l.index done (replicate (limits_of_index l.index).callers []) l.number
          l.passes.items l.transcript.items;
    }

abbrev pub decreases-loop-left : goal.decreases-loop-left
decreases-loop-left g l = lines_left l.left
