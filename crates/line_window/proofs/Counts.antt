-- What a place of a rising list says about the number of smaller keys.
use Rattle.std.proofs.Common.{◌≡◌, ℕ, zero, suc, ◌+◌, ◌<◌, ◌≤◌, List, [], ◌∷◌, length, get_or, cond, nat_lt, arith}
use Rattle.std.specs.List.Sorted.{IsStrictlyIncreasing}
use Rattle.std.proofs.lemmas.Bool.Decides.{nat_tests}
use Rattle.std.proofs.lemmas.List.Sums.{sum_by-cons, count_by-le-length}
use Rattle.line_window.proofs.Rising.{rises-to}
use Rattle.line_window.specs.Search.{count_below}

-- the first key counts by itself
count-cons : (k : ℕ) (keys : List ℕ) (key : ℕ) → count_below (k ∷ keys) key ≡ cond (nat_lt k key) 1 0 + count_below keys key
count-cons k keys key = sum_by-cons (λ other. cond (nat_lt other key) 1 0) k keys

-- each key of a front is smaller: they all count
count-front : (keys : List ℕ) (key i : ℕ) → i ≤ length keys → ((j : ℕ) → j < i → get_or keys j 0 < key) → i ≤ count_below keys key
count-front [] key i h smaller = omega arith
count-front (k ∷ keys) key zero h smaller = omega arith
count-front (k ∷ keys) key (suc i) h smaller =
    let here : k < key = smaller zero (omega arith) in
    let later : i ≤ count_below keys key = count-front keys key i (omega arith) (λ j g. smaller (suc j) (omega arith)) in
    rw (count-cons k keys key) (grind (arith, nat_tests))

-- no key past a front is smaller: none of them counts
count-rest : (keys : List ℕ) (key i : ℕ) → ((j : ℕ) → i ≤ j → j < length keys → key ≤ get_or keys j 0) → count_below keys key ≤ i
count-rest [] key i greater = omega arith
count-rest (k ∷ keys) key zero greater =
    let here : key ≤ k = greater zero (omega arith) (omega arith) in
    let later : count_below keys key ≤ 0 = count-rest keys key zero (λ j g h. greater (suc j) (omega arith) (omega arith)) in
    rw (count-cons k keys key) (grind (arith, nat_tests))
count-rest (k ∷ keys) key (suc i) greater =
    let later : count_below keys key ≤ i = count-rest keys key i (λ j g h. greater (suc j) (omega arith) (omega arith)) in
    rw (count-cons k keys key) (grind (arith, nat_tests))

-- a smaller key at a place: it and those before it count
pub count-above : (keys : List ℕ) (key i : ℕ) → IsStrictlyIncreasing keys → i < length keys → get_or keys i 0 < key → i < count_below keys key
count-above keys key i rising h smaller =
    count-front keys key (suc i) (omega arith) (λ j g. omega (arith, rises-to keys j i rising (omega arith) h))

-- a key that is not smaller at a place: only those before it may count
pub count-below : (keys : List ℕ) (key i : ℕ) → IsStrictlyIncreasing keys → i < length keys → key ≤ get_or keys i 0 → count_below keys key ≤ i
count-below keys key i rising h greater =
    count-rest keys key i (λ j g short. omega (arith, rises-to keys i j rising g short))

-- no more than all count
pub count-within : (keys : List ℕ) (key : ℕ) → count_below keys key ≤ length keys
count-within keys key = count_by-le-length (λ other. nat_lt other key) keys
