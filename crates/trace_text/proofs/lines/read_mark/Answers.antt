use Rattle.std.proofs.Common.{ap, ◌∙◌}
use Rattle.trace_text.specs.Lines.{keyword_of}
use Rattle.trace_text.proofs.LineLaws.{no_words_no_mark, unknown_mark, no_phase, marks_caller, no_caller}
use Rattle.trace_text.proofs.lines.read_mark.Goals as goal

pub returns-in_default : goal.returns-in_default
returns-in_default c =
    no_words_no_mark c.args.callers c.args.line.now c.without_return.result.now
    c.without_return.ensures c.in_default.ensures

pub returns-in_default-mark_of : goal.returns-in_default-mark_of
returns-in_default-mark_of c =
    unknown_mark c.args.callers c.args.line.now c.without_return.result.now c.in-Some.keyword.now
    c.in-Some.rest.now c.without_return.ensures c.in-Some.ensures c.in_default-mark_of.ensures

pub returns-else-has_no_word : goal.returns-else-has_no_word
returns-else-has_no_word c =
    no_phase c.args.callers c.args.line.now c.without_return.result.now c.in-Some.keyword.now
    c.in-Some.rest.now c.without_return.ensures c.in-Some.ensures (c.in-Some-mark_of.ensures ∙ ap keyword_of c.in-Phase.is)
    (λ none. absurd (cc (c.has_no_word.ensures.1 none)))

pub returns-in_err-caller-in-Caller : goal.returns-in_err-caller-in-Caller
returns-in_err-caller-in-Caller c =
    rw c.from_residual.ensures (
    no_caller c.args.callers c.args.line.now c.without_return.result.now c.in-Some.keyword.now
    c.in-Some.rest.now c.without_return.ensures c.in-Some.ensures (c.in-Some-mark_of.ensures ∙ ap keyword_of c.in-Caller.is)
    c.in_err-caller-in-Caller.ensures)

pub returns-in_ok-caller-in-Caller : goal.returns-in_ok-caller-in-Caller
returns-in_ok-caller-in-Caller c =
    marks_caller c.args.callers c.args.line.now c.without_return.result.now c.in-Some.keyword.now
    c.in-Some.rest.now c.in_ok-caller-in-Caller.caller c.without_return.ensures c.in-Some.ensures
    (c.in-Some-mark_of.ensures ∙ ap keyword_of c.in-Caller.is) c.in_ok-caller-in-Caller.ensures
