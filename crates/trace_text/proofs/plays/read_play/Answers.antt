use Rattle.trace_text.proofs.PlayLaws.{by_caller, no_play_of_none, no_play_of_nothing}
use Rattle.trace_text.proofs.plays.read_play.Goals as goal

pub returns-in_err-word : goal.returns-in_err-word
returns-in_err-word c =
    rw c.from_residual.ensures
    (no_play_of_nothing c.args.callers c.args.line.now
    (λ has. absurd (cc (c.asks_for_layout.ensures.1 has))) c.in_err-word.ensures)

pub returns-in_err-caller : goal.returns-in_err-caller
returns-in_err-caller c =
    rw c.from_residual-in_err-caller.ensures
    (no_play_of_none c.args.callers c.args.line.now c.in_ok-word.word.now c.in_ok-word.rest.now
    (λ has. absurd (cc (c.asks_for_layout.ensures.1 has))) c.in_ok-word.ensures c.in_err-caller.ensures)

pub returns : goal.returns
returns c =
    by_caller c.args.callers c.args.line.now c.in_ok-word.word.now c.in_ok-word.rest.now
    c.in_ok-caller.caller c.read_deed.result
    (λ has. absurd (cc (c.asks_for_layout.ensures.1 has))) c.requires c.in_ok-word.ensures
    c.in_ok-caller.ensures c.read_deed.ensures
