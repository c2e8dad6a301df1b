use Rattle.std.proofs.Common.{◌↔◌, ◌≡◌, [], List, All, length, ap, sym, ◌∙◌, arith, rules}
use Rattle.std.specs.Prelude.{IsTrue}
use Rattle.std.proofs.lemmas.List.{length-map, get_or-map, nil_from_length}
use Rattle.std.proofs.lemmas.List.Elements.{All-map}
use Rattle.wire_commands.specs.declared.reply.Reply.{Reply}
use Rattle.trace_text.specs.KeptReplies.{Kept}
use Rattle.trace_text.proofs.transcripts.has_no_call.Goals as goal

pub returns : goal.returns
returns c =
    let items = λ (own : Kept). own.replies in
    let all = c.args.replies.now in
    let each : IsTrue c.all.result ↔ All (λ (own : Kept). length own.replies ≡ 0) all = search rules in (
      λ yes. All-map (λ (own : List Reply). own ≡ []) items all (λ k d lt. nil_from_length _ (each.0 yes k d lt)),
      λ none. each.1 (λ k d lt. ap length (sym (get_or-map items all k d d.replies lt) ∙ none k d.replies (omega (arith, length-map all items)))),
    )
