-- The part of a key and the part of a group.
use Rattle.std.proofs.Common.{◌≡◌, ⊎_elim, ℕ, zero, suc, ◌+◌, ◌*◌, ◌/◌, ◌<◌, ◌≤◌, List, [], ◌∷◌, cond, length, sym, ap, ◌∙◌, arith}
use Rattle.std.specs.Prelude.{nat_le}
use Rattle.std.proofs.lemmas.Bool.{cases_lt, le-leb, lt-leb}
use Rattle.std.proofs.lemmas.List.Sums.{sum_by-cons, count_by-le-length}
use Rattle.std.proofs.lemmas.Nat.{div-mul-add, div_below}
use Rattle.std.proofs.Math.Nat.{mul-le-mul_right}
use Rattle.word_layout.specs.Parts.{AreBounds, greatest_key, part_count, last_key_of, part_with, IsKeyOfPart}
use Rattle.word_layout.specs.Shape.{Shape, parts_in, group_total, first_group_of, part_of_group}
use Rattle.word_layout.proofs.KeySpace.{first_key-below, has_key_alone, last_key-inner, last_key-last}

-- ---- the part of a key ----

pub part_with-within : (bounds : List ℕ) (key : ℕ) → part_with bounds key < part_count bounds
part_with-within bounds key =
    omega (arith, count_by-le-length (λ bound. nat_le bound key) bounds)

-- what a bound adds to the count
abbrev counted : ℕ → ℕ → ℕ
counted key bound = cond (nat_le bound key) 1 0

counted-monotone : (bound j k : ℕ) → j ≤ k → counted j bound ≤ counted k bound
counted-monotone bound j k h =
    ⊎_elim (λ (above : j < bound). rw (lt-leb bound j above) (omega arith))
    (λ (counts : bound ≤ j). rw (le-leb bound j counts, le-leb bound k (omega arith)) (omega arith))
    (cases_lt j bound)

-- a greater key is in the same part or in a later one
pub part_with-monotone : (bounds : List ℕ) (j k : ℕ) → j ≤ k → part_with bounds j ≤ part_with bounds k
part_with-monotone [] j k h = omega arith
part_with-monotone (b ∷ bs) j k h =
    omega (
      arith,
      sum_by-cons (counted j) b bs,
      sum_by-cons (counted k) b bs,
      counted-monotone b j k h,
      part_with-monotone bs j k h,
    )

pub last_key-greatest : (bounds : List ℕ) (part : ℕ) → AreBounds bounds →
    last_key_of bounds part ≤ greatest_key
last_key-greatest bounds part are =
    ⊎_elim
    (λ (inner : part < length bounds).
    let small = first_key-below bounds part are inner in
    omega (arith, last_key-inner bounds part inner))
    (λ (last : length bounds ≤ part). omega (arith, last_key-last bounds part last))
    (cases_lt part (length bounds))

pub key-greatest : (bounds : List ℕ) (part key : ℕ) → AreBounds bounds → IsKeyOfPart bounds part key →
    key ≤ greatest_key
key-greatest bounds part key are is = omega (arith, is.to, last_key-greatest bounds part are)

-- the part of which a key is one is that which has it
pub part_with-key : (bounds : List ℕ) (part key : ℕ) → AreBounds bounds → part < part_count bounds →
    IsKeyOfPart bounds part key → part_with bounds key ≡ part
part_with-key bounds part key are is_part is =
    sym ((has_key_alone bounds key are (key-greatest bounds part key are is)).alone part is_part is)

-- and each key is one of the part that has it
pub part_with-has : (bounds : List ℕ) (key : ℕ) → AreBounds bounds → key ≤ greatest_key →
    IsKeyOfPart bounds (part_with bounds key) key
part_with-has bounds key are small = (has_key_alone bounds key are small).has

-- ---- the part of a group ----

pub first_group-part : (s : Shape) (part : ℕ) → 0 < s.limits.groups →
    part_of_group s (first_group_of s part) ≡ part
first_group-part s part some =
    let same : part * s.limits.groups + 0 ≡ part * s.limits.groups = omega arith in
    ap (λ (n : ℕ). n / s.limits.groups) (sym same) ∙ div-mul-add part s.limits.groups 0 some

-- a part has its first group row
pub first_group-exists : (s : Shape) (part : ℕ) → 0 < s.limits.groups → part < parts_in s →
    first_group_of s part < group_total s
first_group-exists s part some is_part =
    let next : part + 1 ≤ parts_in s = omega arith in
    omega (arith, mul-le-mul_right s.limits.groups next)

-- the part of a group of the table
pub group-part : (s : Shape) (group : ℕ) → group < group_total s → part_of_group s group < parts_in s
group-part s group h =
    div_below group s.limits.groups (parts_in s) (some s.limits.groups (parts_in s) h) h
  where
    some : (n parts : ℕ) → group < parts * n → 0 < n
    some zero parts below = absurd (omega arith)
    some (suc n) parts below = omega arith
