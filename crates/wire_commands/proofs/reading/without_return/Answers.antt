use Rattle.std.proofs.Common.{◌≡◌, ◌≢◌, ℕ, List, [], ◌∷◌, ◌++◌, Option, Some, None, MatchOption, unwrap_or, Bor, inl, inr, refl}
use Rattle.std.proofs.lemmas.Bool.Decides.{Decides-eqb}
use Rattle.std.proofs.lemmas.Slice.Eq.{strip_suffix_is}
use Rattle.wire_commands.specs.Grammar.{DropsReturn}
use Rattle.wire_commands.proofs.reading.without_return.Goals as goal

cut_or_whole : (line : Bor (List ℕ)) (cut : Option (Bor (List ℕ)))
    → MatchOption cut ((front : List ℕ) → line.now ≢ front ++ 13 ∷ []) (λ front. line.now ≡ front.now ++ 13 ∷ [])
    → DropsReturn line.now (unwrap_or cut line).now
cut_or_whole line (Some front) is = inl is
cut_or_whole line None none = inr (refl, none)

pub returns : goal.returns
returns c =
    rw c.unwrap_or.ensures (cut_or_whole c.args.line c.strip_suffix.result
    (strip_suffix_is Decides-eqb c.args.line.now (13 ∷ []) c.strip_suffix.result c.strip_suffix.ensures.cases))
