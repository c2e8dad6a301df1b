-- The keys of rows, by their places.
use Rattle.std.proofs.Common.{◌≡◌, ℕ, zero, suc, ◌+◌, ◌<◌, [], ◌∷◌, length, slice_index, slice_index_or, refl, sym, subst, arith}
use Rattle.std.proofs.lemmas.List.{length-map}
use Rattle.std.specs.List.Sorted.{IsStrictlyIncreasing}
use Rattle.map_model.specs.Map.{Map, IsRising}
use Rattle.opened_table.specs.Laying.{keys_in}

-- as many as rows
pub length_of_keys : (rows : Map) → length (keys_in rows) ≡ length rows
length_of_keys rows = length-map rows (λ row. row.0)

-- each is that of the row at its place
pub key_in : (rows : Map) (i : ℕ) →
    slice_index (keys_in rows) i ≡ (slice_index_or rows i (0, 0)).0
key_in [] i = refl
key_in (row ∷ rows) zero = refl
key_in (row ∷ rows) (suc i) = key_in rows i

-- they rise as the rows do
pub rising_keys : (rows : Map) → IsRising rows → IsStrictlyIncreasing (keys_in rows)
rising_keys [] rising k lt = absurd (omega arith)
rising_keys (row ∷ []) rising k lt = absurd (omega arith)
rising_keys (row ∷ (next ∷ rows)) rising zero lt = rising.0.0
rising_keys (row ∷ (next ∷ rows)) rising (suc k) lt =
    let later : suc k + 1 ≡ suc (k + 1) = omega arith in
    subst
    (λ (n : ℕ).
    slice_index (keys_in (row ∷ next ∷ rows)) (suc k) < slice_index (keys_in (row ∷ next ∷ rows)) n)
    (sym later) (rising_keys (next ∷ rows) rising.1 k (omega arith))
