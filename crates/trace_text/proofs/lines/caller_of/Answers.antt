use Rattle.trace_text.proofs.LineLaws.{no_word_no_caller, names_by_word}
use Rattle.trace_text.proofs.lines.caller_of.Goals as goal

pub returns-in_default : goal.returns-in_default
returns-in_default c = no_word_no_caller c.args.callers c.args.rest.now c.in_default.ensures

pub returns : goal.returns
returns c =
    names_by_word c.args.callers c.args.rest.now c.in-Some.word.now c.named_caller.result
    c.in-Some.ensures c.named_caller.ensures
