use Rattle.std.proofs.Common.{◌≡◌, ◌++◌, map, append-nil, ap, sym, ◌∙◌}
use Rattle.std.proofs.lemmas.Result.{on_ok_weaker}
use Rattle.trace_text.specs.KeptReplies.{Kept}
use Rattle.trace_text.specs.Transcripts.{phase_text, callers_text}
use Rattle.trace_text.proofs.TranscriptLaws.{no_call-no_text, phase_written, adds_phase}
use Rattle.trace_text.proofs.transcripts.append_phase.Goals as goal

pub returns-then-has_no_call : goal.returns-then-has_no_call
returns-then-has_no_call c =
    let old = c.args.text.now.items in
    let replies = map (λ (own : Kept). own.replies) c.args.replies.now in
    let added : old ≡ old ++ phase_text c.args.number replies =
    sym (append-nil old) ∙ ap (λ l. old ++ l) (sym (no_call-no_text c.args.number replies (c.has_no_call.ensures.0 c.if-has_no_call.true))) in
    record { appends = added; goes_on = adds_phase c.args.number replies old old added }

pub returns : goal.returns
returns c =
    let old = c.args.text.now.items in
    let new = c.append_callers.new.text.items in
    let replies = map (λ (own : Kept). own.replies) c.args.replies.now in
    let written : new ≡ c.append_number.new.text.items ++ callers_text replies → new ≡ old ++ phase_text c.args.number replies =
    λ body. phase_written old c.append_number.new.text.items new c.args.number replies c.in_ok-append_number.ensures body
    (λ none. absurd (cc (c.has_no_call.ensures.1 none))) in
    record {
      appends = on_ok_weaker c.append_callers.result written c.append_callers.ensures;
      goes_on = on_ok_weaker c.append_callers.result (λ body. adds_phase c.args.number replies old new (written body)) c.append_callers.ensures;
    }
