-- Which of several neighbours has a key, where they begin at rising keys.
use Rattle.std.proofs.Common.{◌≡◌, ℕ, zero, suc, ◌+◌, ◌<◌, ◌≤◌, cond, List, [], ◌∷◌, length, get_or, refl, arith, inl, inr}
use Rattle.std.proofs.lemmas.Bool.{cases_order, le-leb, lt-leb}
use Rattle.std.proofs.lemmas.List.Sums.{sum_by-cons}
use Rattle.std.specs.List.Sorted.{IsStrictlyIncreasing}
use Rattle.std.specs.Prelude.{nat_le}
use Rattle.rebuild_plan.proofs.KeyLaws.{key-rises, key-rises_to}
use Rattle.layout_model.specs.Stretches.{begin_of, begun_at, position_of}
use Rattle.layout_model.proofs.RecordLists.{increasing-tail}

begun-cons : (x : ℕ) (xs : List ℕ) (k : ℕ) →
    begun_at (x ∷ xs) k ≡ cond (nat_le x k) 1 0 + begun_at xs k
begun-cons x xs k = sum_by-cons (λ begin. cond (nat_le begin k) 1 0) x xs

-- none begins at a key that is below the first
begun-none : (xs : List ℕ) (k : ℕ) → IsStrictlyIncreasing xs → (0 < length xs → k < get_or xs 0 0) →
    begun_at xs k ≡ 0
begun-none [] k up first = refl
begun-none (x ∷ xs) k up first =
    let before : k < x = first (omega arith) in
    let rest =
    begun-none xs k (increasing-tail x xs up) (λ some. omega (arith, key-rises (x ∷ xs) 0 1 up (omega arith) (omega arith))) in
    rw (begun-cons x xs k, lt-leb x k before) (omega (arith, rest))

-- up to the one at a position begin at a key that lies from there to before the next
begun-is : (xs : List ℕ) (k j : ℕ) → IsStrictlyIncreasing xs → j < length xs → get_or xs j 0 ≤ k →
    (suc j < length xs → k < get_or xs (suc j) 0) → begun_at xs k ≡ suc j
begun-is [] k j up within from to = absurd (omega arith)
begun-is (x ∷ xs) k zero up within from to =
    let rest = begun-none xs k (increasing-tail x xs up) (λ some. to (omega arith)) in
    rw (begun-cons x xs k, le-leb x k from) (omega (arith, rest))
begun-is (x ∷ xs) k (suc j) up within from to =
    let first = key-rises_to (x ∷ xs) 0 (suc j) up (omega arith) within in
    let rest =
    begun-is xs k j (increasing-tail x xs up) (omega arith) from (λ next. to (omega arith)) in
    rw (begun-cons x xs k, le-leb x k (omega (arith, first, from))) (omega (arith, rest))

-- the neighbour at a position has the keys that lie from where it begins to before the next
pub position_of-is : (begins : List ℕ) (k j : ℕ) → IsStrictlyIncreasing begins →
    j < length begins → get_or begins j 0 ≤ k →
    (suc j < length begins → k < get_or begins (suc j) 0) → position_of begins k ≡ j
position_of-is begins k j up within from to =
    let begun = begun-is begins k j up within from to in omega (arith, begun)

-- two positions at which the same key begins are one
same_position : (begins : List ℕ) (i j : ℕ) → IsStrictlyIncreasing begins → i < length begins →
    j < length begins → get_or begins i 0 ≡ get_or begins j 0 → i ≡ j
same_position begins i j up here there same =
    elim (cases_order i j) [
      | inl is ↦ is
      | inr (inl less) ↦ absurd (omega (arith, key-rises begins i j up less there, same))
      | inr (inr more) ↦ absurd (omega (arith, key-rises begins j i up more here, same))
    ]

-- a key whose neighbour begins where the one at a position does is that one's
pub position-by_begin : (begins : List ℕ) (k j : ℕ) → IsStrictlyIncreasing begins →
    position_of begins k < length begins → j < length begins →
    begin_of begins k ≡ get_or begins j 0 → position_of begins k ≡ j
position-by_begin begins k j up within there same =
    same_position begins (position_of begins k) j up within there same
