use Rattle.std.proofs.Common.{◌≡◌, ◌↔◌, [], ◌∷◌, codes, subst, rules}
use Rattle.std.specs.Prelude.{IsTrue}
use Rattle.wire_commands.specs.Words.{HasWords}
use Rattle.trace_text.proofs.LineLaws.{same_words_of}
use Rattle.trace_text.proofs.DeedLaws.{not_one_word}
use Rattle.trace_text.proofs.plays.asks_for_layout.Goals as goal

pub returns-in_default : goal.returns-in_default
returns-in_default c = (
  λ no. absurd (cc no),
  λ has. absurd (not_one_word c.args.line.now c.without_return.result.now c.without_return.ensures
      c.in_default.ensures (codes "layout") has),
)

pub returns : goal.returns
returns c =
    let is : IsTrue c.eq.result ↔ (c.in-Some.word.now ≡ codes "layout") = search rules in (
      λ yes. record {
        line = c.without_return.result.now;
        dropped = c.without_return.ensures;
        has = subst (λ w. HasWords c.without_return.result.now (w ∷ [])) (is.0 yes) c.in-Some.ensures;
      },
      λ has.
          let words =
          same_words_of c.args.line.now c.without_return.result.now (c.in-Some.word.now ∷ [])
          (codes "layout" ∷ []) c.without_return.ensures c.in-Some.ensures has in
          is.1 (cc words),
    )
