-- Texts that are put together of pieces.
use Rattle.std.proofs.Common.{◌≡◌, ◌≢◌, ℕ, ◌+◌, List, [], ◌∷◌, ◌++◌, refl, sym, ap, ◌∙◌, arith}
use Rattle.std.specs.List.{range_with_len}
use Rattle.std.proofs.lemmas.List.{map-id}
use Rattle.std.proofs.lemmas.List.FromFn.{map-range_with_len_more}
use Rattle.trace_text.specs.Text.{headed}

-- what is not empty stands under its head
pub headed-some : {X : Type 0} (head xs : List X) → xs ≢ [] → headed head xs ≡ head ++ xs
headed-some head [] some = absurd (some refl)
headed-some head (x ∷ xs) some = refl

-- what ends in something is not empty
pub append-some : {X : Type 0} (xs ys : List X) → ys ≢ [] → xs ++ ys ≢ []
append-some [] ys some = some
append-some (x ∷ xs) ys some = λ e. absurd (cc e)

-- what begins with something is not empty
pub some-append : {X : Type 0} (xs ys : List X) → xs ≢ [] → xs ++ ys ≢ []
some-append [] ys some = absurd (some refl)
some-append (x ∷ xs) ys some = λ e. absurd (cc e)

-- one more number, counted from 0
pub range_more : (n : ℕ) → range_with_len 0 (n + 1) ≡ range_with_len 0 n ++ n ∷ []
range_more n =
    sym (map-id (range_with_len 0 (n + 1))) ∙ map-range_with_len_more (λ i. i) 0 n n (omega arith)
    ∙ ap (λ l. l ++ n ∷ []) (map-id (range_with_len 0 n))
