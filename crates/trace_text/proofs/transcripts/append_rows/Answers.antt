use Rattle.std.proofs.Common.{arith}
use Rattle.std.proofs.lemmas.Result.{on_ok_weaker}
use Rattle.trace_text.proofs.TranscriptLaws.{rows_written, adds_rows}
use Rattle.trace_text.proofs.transcripts.append_rows.Goals as goal

pub returns-clause-ends : goal.returns-clause-ends
returns-clause-ends c =
    let old = c.args.text.now.items in
    let new = c.append_number.new.text.items in
    let rows = c.args.rows.now in
    on_ok_weaker c.append_number.result
    (λ last. adds_rows rows old new
    (rows_written old c.extend_from_slice.new.self.items c.loop-key.text.items new c.loop-key.key-index rows
    c.in_ok-extend_from_slice.ensures.items c.loop-key.invariant (omega arith) last))
    c.append_number.ensures
