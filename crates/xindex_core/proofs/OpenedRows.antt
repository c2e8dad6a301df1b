-- Rows rise where each key is above the one before it; and how many of them the plan counts for a part.
use Rattle.std.proofs.Common.{◌≡◌, ℕ, suc, ◌+◌, ◌<◌, Bool, true, false, cond, ◌==◌, List, [], ◌∷◌, length, refl}
use Rattle.std.proofs.Common.{subst, arith}
use Rattle.std.specs.Prelude.{count_by}
use Rattle.std.proofs.lemmas.List.Recursion.{is_count_by}
use Rattle.map_model.specs.Map.{IsRising, Map, key_at}
use Rattle.map_model.proofs.Pairs.{AllAbove}
use Rattle.index_machine.specs.OpeningPlan.{keys_for}

-- each key is above the one before it
abbrev pub Rises : Map → Type 0
Rises rows = (i : ℕ) → i + 1 < length rows → key_at rows i < key_at rows (i + 1)

behind_first : (r : ℕ × ℕ) (rows : Map) → Rises (r ∷ rows) → Rises rows
behind_first r rows rise i lt =
    let one : suc i + 1 ≡ suc (i + 1) = omega arith in
    let next : i + 1 ≡ suc i = omega arith in
    let up = subst (λ (n : ℕ). key_at (r ∷ rows) (suc i) < key_at (r ∷ rows) n) one
    (rise (suc i) (omega arith)) in
    up

above_lower : (low high : ℕ) (rows : Map) → low < high → AllAbove high rows → AllAbove low rows
above_lower low high [] lt above = tt
above_lower low high (r ∷ rows) lt above =
    let first = above.0 in (omega arith, above_lower low high rows lt above.1)

pub rising_from : (rows : Map) → Rises rows → IsRising rows
rising_from [] rise = tt
rising_from (r ∷ []) rise = (tt, tt)
rising_from (r ∷ (q ∷ rows)) rise =
    let rest = rising_from (q ∷ rows) (behind_first r (q ∷ rows) rise) in
    let up : r.0 < q.0 = rise 0 (omega arith) in
    ((up, above_lower r.0 q.0 rows up rest.0), rest)

-- as many keys have a number by the map as rows pass the test for it
pub keys-count : (of : ℕ → ℕ) (number : ℕ) (rows : Map) →
    length (keys_for of number rows) ≡ count_by (λ (r : ℕ × ℕ). of r.0 == number) rows
keys-count of number rows =
    is_count_by (λ (m : Map). length (keys_for of number m)) (λ (r : ℕ × ℕ). of r.0 == number) refl
    (λ r m. one_more (of r.0 == number) r.0 (keys_for of number m)) rows
  where
    one_more : (b : Bool) (k : ℕ) (keys : List ℕ) →
        length (cond b (k ∷ keys) keys) ≡ cond b (1 + length keys) (length keys)
    one_more true k keys = omega arith
    one_more false k keys = refl
