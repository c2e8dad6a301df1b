-- The places of the record rows, in their order.
use Rattle.std.proofs.Common.{◌≡◌, ◌≢◌, inl, inr, ℕ, ◌+◌, ◌-◌, ◌/◌, ◌<◌, ◌≤◌, refl, sym, ap, ◌∙◌, subst, arith}
use mathlib.Core.Logic.{dite}
use native.Mathlib.Decide.{ℕ_discrete}
use Rattle.std.proofs.lemmas.Bool.{lt-ltb, le-ltb, le-leb}
use Rattle.word_layout.specs.Shape.{Shape}
use Rattle.word_layout.specs.declared.places.Part.TheVariants.{Link}
use Rattle.word_layout.specs.Limits.{word_count}
use Rattle.word_layout.specs.Addresses.{first_row_word, row_address}
use Rattle.word_layout.specs.Places.{IsRow, FitsPart, next_row}

-- the place of row i is that of a row
pub IsRow-row_address : (s : Shape) (i : ℕ) → i < s.limits.records → IsRow s (row_address s i)
IsRow-row_address s i h = (omega arith, omega arith, omega arith)

-- each row has a number
pub row_number : (s : Shape) (place : ℕ) → IsRow s place →
    (i : ℕ) × (i < s.limits.records) × (place ≡ row_address s i)
row_number s place row =
    let low = row.0 in
    let high = row.1 in
    let whole = row.2 in
    ((place - first_row_word s) / 4, omega arith, omega arith)

-- and one place
pub row_address-injective : (s : Shape) (i j : ℕ) → row_address s i ≡ row_address s j → i ≡ j
row_address-injective s i j e = omega arith

-- 0 is the place of no row
pub row-nonzero : (s : Shape) (place : ℕ) → IsRow s place → place ≢ 0
row-nonzero s place row e = let low = row.0 in absurd (omega arith)

-- the next of a row that is not the last
pub next_row-inner : (s : Shape) (i : ℕ) → i + 1 < s.limits.records →
    next_row s (row_address s i) ≡ row_address s (i + 1)
next_row-inner s i h =
    let place : ℕ = row_address s i in
    let low : first_row_word s ≤ place = omega arith in
    let high : place + 4 < word_count s = omega arith in
    let is : place + 4 ≡ row_address s (i + 1) = omega arith in
    rw (le-leb (first_row_word s) place low, lt-ltb (place + 4) (word_count s) high) is

-- and of the last one
pub next_row-last : (s : Shape) (i : ℕ) → i + 1 ≡ s.limits.records → next_row s (row_address s i) ≡ 0
next_row-last s i h =
    let place : ℕ = row_address s i in
    let low : first_row_word s ≤ place = omega arith in
    let high : word_count s ≤ place + 4 = omega arith in
    rw (le-leb (first_row_word s) place low, le-ltb (place + 4) (word_count s) high) refl

-- a row may have the next one as its link
pub next_row-fits : (s : Shape) (place : ℕ) → IsRow s place → FitsPart s Link (next_row s place)
next_row-fits s place row =
    let number = row_number s place row in
    let i : ℕ = number.0 in
    let below : i < s.limits.records = number.1 in
    let is : next_row s place ≡ next_row s (row_address s i) = ap (next_row s) number.2 in
    dite (ℕ_discrete (i + 1) s.limits.records)
    (λ (last : i + 1 ≡ s.limits.records). inl (is ∙ next_row-last s i last))
    (λ (differ : i + 1 ≢ s.limits.records).
    let inner : i + 1 < s.limits.records = omega arith in
    inr (subst (IsRow s) (sym (is ∙ next_row-inner s i inner))
    (IsRow-row_address s (i + 1) inner)))
