-- Where parts of rising keys begin, and which keys lie in them.
use Rattle.std.proofs.Common.{ℕ, zero, suc, ◌≡◌, ◌+◌, ◌*◌, ◌<◌, ◌≤◌, List, length, get_or, arith, inl, inr}
use Rattle.std.proofs.Math.Nat.{mul-le-mul_right}
use Rattle.std.proofs.lemmas.Bool.{cases_lt}
use Rattle.std.proofs.lemmas.List.Kept.{AllPairs-from_increasing}
use Rattle.std.specs.List.Sorted.{IsStrictlyIncreasing}
use Rattle.rebuild_plan.specs.Plan.{first_record}
use Rattle.rebuild_plan.specs.Keys.{RiseFrom, DividesKeys}

-- the key of a later number is greater
pub key-rises : (keys : List ℕ) (number later : ℕ) → IsStrictlyIncreasing keys → number < later →
    later < length keys → get_or keys number 0 < get_or keys later 0
key-rises keys number later rising before within =
    AllPairs-from_increasing keys rising number later 0 before within

-- the key of the same number or a later one is no less
pub key-rises_to : (keys : List ℕ) (number later : ℕ) → IsStrictlyIncreasing keys → number ≤ later →
    later < length keys → get_or keys number 0 ≤ get_or keys later 0
key-rises_to keys number later rising before within =
    elim (cases_lt number later) [
      | inl less ↦
          let above = key-rises keys number later rising less within in
          omega arith
      | inr not_less ↦
          let same : number ≡ later = omega arith in
          rw same (omega arith)
    ]

-- parts of rising keys: the first begins at a key that is at most all of them, a later one at its first key
pub record Begins (begins : ℕ → ℕ) (keys : List ℕ) (parts size : ℕ) : Type 0 where
  pub rise : RiseFrom (begins 0) keys
  pub some : 0 < length keys → 1 ≤ size
  pub key : (before : ℕ) → begins (suc before) ≡ get_or keys (first_record size (suc before)) 0
  pub within : (part : ℕ) → 1 ≤ part → part < parts → first_record size part < length keys

-- a part begins at its first key or below
begins-le_key : (begins : ℕ → ℕ) (keys : List ℕ) (parts size number part : ℕ) →
    Begins begins keys parts size → first_record size part ≤ number → number < length keys →
    begins part ≤ get_or keys number 0
begins-le_key begins keys parts size number zero b from within =
    let first = b.rise.bounded (omega arith) in
    let above = key-rises_to keys 0 number b.rise.rising (omega arith) within in
    omega arith
begins-le_key begins keys parts size number (suc before) b from within =
    rw (b.key before) (key-rises_to keys (first_record size (suc before)) number b.rise.rising from within)

-- a key that lies before a later part is below it
key-below : (begins : ℕ → ℕ) (keys : List ℕ) (parts size number later : ℕ) →
    Begins begins keys parts size → 1 ≤ later → later < parts → number < first_record size later →
    get_or keys number 0 < begins later
key-below begins keys parts size number zero b some among before = absurd (omega arith)
key-below begins keys parts size number (suc part) b some among before =
    rw (b.key part) (key-rises keys number (first_record size (suc part)) b.rise.rising before
    (b.within (suc part) some among))

-- the begin of a later part is no less than the end of an earlier one
ends-le_begin : (size part later : ℕ) → part < later → (part + 1) * size ≤ first_record size later
ends-le_begin size part later before =
    let next : part + 1 ≤ later = omega arith in
    mul-le-mul_right size next

-- so the parts divide the keys
pub divides_keys : (begins : ℕ → ℕ) (keys : List ℕ) (parts size : ℕ) →
    Begins begins keys parts size → DividesKeys begins keys parts size
divides_keys begins keys parts size b = record {
  rise = λ part later before among.
      let within = b.within later (omega arith) among in
      let some = b.some (omega arith) in
      let ends = ends-le_begin size part later before in
      let from = begins-le_key begins keys parts size (first_record size part) part b (omega arith) (omega arith) in
      let below = key-below begins keys parts size (first_record size part) later b (omega arith) among (omega arith) in
      omega (from, below, arith);
  from = λ number part given.
      begins-le_key begins keys parts size number part b given.begins (omega (arith, given.ends));
  below = λ number part later given before among.
      let ends = ends-le_begin size part later before in
      key-below begins keys parts size number later b (omega arith) among (omega (arith, ends, given.ends));
}
