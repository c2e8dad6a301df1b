use Rattle.std.proofs.Common.{◌≡◌, [], map, get_or, ap, sym, ◌∙◌}
use Rattle.std.proofs.lemmas.List.{get_or-map}
use Rattle.trace_text.specs.KeptReplies.{Kept}
use Rattle.trace_text.proofs.TranscriptLaws.{callers_more}
use Rattle.trace_text.proofs.transcripts.append_callers.Goals as goal

pub loop-caller-preserved : goal.loop-caller-preserved
loop-caller-preserved c =
    let told = λ (own : Kept). own.replies in
    let all = c.args.replies.now in
    let n = c.loop-caller.caller in
    let own : told c.index-replies-caller.result ≡ get_or (map told all) n [] =
    ap told c.index-replies-caller.is
    ∙ sym (get_or-map told all n c.index-replies-caller.result [] c.loop-caller-test.true) in
    callers_more (map told all) n (told c.index-replies-caller.result) c.args.text.now.items c.loop-caller.text.items c.append_caller.new.text.items
    c.loop-caller.invariant own c.in_ok-append_caller.ensures
