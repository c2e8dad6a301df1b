use Rattle.std.proofs.Common.{length}
use Rattle.trace_text.specs.Lines.{Says}
use Rattle.trace_text.specs.Traces.{is_told}
use Rattle.trace_text.proofs.CuttingLaws.{HasRead}
use Rattle.trace_text.proofs.traces.read_trace.Given as goal

abbrev pub invariant-loop-line : goal.invariant-loop-line
invariant-loop-line l = HasRead (Says l.callers) is_told l.text l.lines l.trace

abbrev pub decreases-loop-line : goal.decreases-loop-line
decreases-loop-line l = length l.lines.rest
