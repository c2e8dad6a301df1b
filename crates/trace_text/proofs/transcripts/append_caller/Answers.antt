use Rattle.std.proofs.Common.{◌<◌, length, arith}
use Rattle.std.proofs.lemmas.Result.{on_ok_weaker}
use Rattle.trace_text.proofs.TranscriptLaws.{caller_written}
use Rattle.trace_text.proofs.transcripts.append_caller.Goals as goal

pub returns : goal.returns
returns c =
    let some : 0 < length c.args.replies.now.replies = grind (arith, c.len.ensures) in
    on_ok_weaker c.append_to.result
    (λ body. caller_written c.args.text.now.items c.append_number.new.text.items c.append_to.new.text.items
    c.args.caller c.args.replies.now.replies c.in_ok-append_number.ensures body some)
    c.append_to.ensures
