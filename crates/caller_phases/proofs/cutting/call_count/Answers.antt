use Rattle.std.proofs.Common.{List, length, ap, arith}
use Rattle.trace_text.specs.declared.lines.Line.{Line}
use Rattle.caller_phases.specs.Calls.{calls_in, first_phase}
use Rattle.caller_phases.proofs.Cuts.{first_short}
use Rattle.caller_phases.proofs.cutting.call_count.Goals as goal

pub loop-line-init : goal.loop-line-init
loop-line-init c =
    let same = c.again-rest.ensures.lines in
    let short = first_short c.args.lines.now in
    let long = ap (λ (z : List Line). length (first_phase z)) same in
    let calls = ap (λ (z : List Line). length (calls_in c.args.caller (first_phase z))) same in
    record {
      whole = omega arith;
      few = omega arith;
    }
