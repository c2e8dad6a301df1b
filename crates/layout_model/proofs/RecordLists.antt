-- Lists of records: what stands there, and in which order, once one was added or replaced.
use Rattle.std.proofs.Common.{◌≡◌, ℕ, zero, suc, ◌<◌, ◌≤◌, Some, None, List, [], ◌∷◌, length, get_or, refl, sym, add-one, arith, inl, inr}
use Rattle.std.proofs.lemmas.Bool.{cases_Bool, cases_eq, eq-eqb, eqb-false, eqb-true, ltb-false, ltb-true, ne_eqb}
use Rattle.std.proofs.lemmas.List.Elements.{All-cons, All-head, All-same, All-tail}
use Rattle.std.specs.List.Sorted.{IsStrictlyIncreasing}
use Rattle.std.specs.Prelude.{◌==◌, nat_lt, All}
use Rattle.layout_model.specs.Calls.{last_version}
use Rattle.layout_model.specs.Cells.{Cell, added, cell_at, keys_of, replaced}
use Rattle.layout_model.specs.WellFormed.{AreRecords}

-- ---- rising lists ----

pub increasing-tail : (x : ℕ) (xs : List ℕ) → IsStrictlyIncreasing (x ∷ xs) → IsStrictlyIncreasing xs
increasing-tail x xs up k within = let step = up (suc k) (omega arith) in rw add-one (rw add-one at step)

pub increasing-cons : (x : ℕ) (xs : List ℕ) → (0 < length xs → x < get_or xs 0 0) →
    IsStrictlyIncreasing xs → IsStrictlyIncreasing (x ∷ xs)
increasing-cons x xs first up zero within = first (omega arith)
increasing-cons x xs first up (suc k) within =
    let step = up k (omega arith) in rw add-one (rw add-one at step)

-- the first number of a rising list is below the second
pub increasing-first : (x : ℕ) (xs : List ℕ) → IsStrictlyIncreasing (x ∷ xs) → 0 < length xs →
    x < get_or xs 0 0
increasing-first x xs up some = up 0 (omega arith)

-- ---- the record of a key ----

-- the record is not the first one where that has another key
cell_at-first : (c : Cell) (cs : List Cell) (k : ℕ) → c.key ≡ k → cell_at (c ∷ cs) k ≡ Some c
cell_at-first c cs k same = rw (eq-eqb c.key k same) refl

cell_at-rest : (c : Cell) (cs : List Cell) (k : ℕ) → (c.key ≡ k → ⊥) →
    cell_at (c ∷ cs) k ≡ cell_at cs k
cell_at-rest c cs k apart = rw (ne_eqb c.key k apart) refl

-- where a key has no record, neither the first nor any other has it
absent-first : (c : Cell) (cs : List Cell) (k : ℕ) → cell_at (c ∷ cs) k ≡ None → c.key ≡ k → ⊥
absent-first c cs k none same = cc (cell_at-first c cs k same)

absent-rest : (c : Cell) (cs : List Cell) (k : ℕ) → cell_at (c ∷ cs) k ≡ None → cell_at cs k ≡ None
absent-rest c cs k none = rw (cell_at-rest c cs k (absent-first c cs k none)) at none

-- ---- replaced ----

replaced-first : (new c : Cell) (cs : List Cell) → c.key ≡ new.key →
    replaced new (c ∷ cs) ≡ new ∷ replaced new cs
replaced-first new c cs same = rw (eq-eqb c.key new.key same) refl

replaced-rest : (new c : Cell) (cs : List Cell) → (c.key ≡ new.key → ⊥) →
    replaced new (c ∷ cs) ≡ c ∷ replaced new cs
replaced-rest new c cs apart = rw (ne_eqb c.key new.key apart) refl

pub keys_of-replaced : (new : Cell) (cells : List Cell) → keys_of (replaced new cells) ≡ keys_of cells
keys_of-replaced new [] = refl
keys_of-replaced new (c ∷ cs) =
    let rest = keys_of-replaced new cs in
    elim (cases_Bool (c.key == new.key)) [
      | inl same ↦ let key = eqb-true c.key new.key same in rw same cc
      | inr other ↦ rw other cc
    ]

pub cell_at-replaced_other : (new : Cell) (cells : List Cell) (q : ℕ) → (new.key ≡ q → ⊥) →
    cell_at (replaced new cells) q ≡ cell_at cells q
cell_at-replaced_other new [] q apart = refl
cell_at-replaced_other new (c ∷ cs) q apart =
    let rest = cell_at-replaced_other new cs q apart in
    elim (cases_Bool (c.key == new.key)) [
      | inl same ↦
          let key = eqb-true c.key new.key same in
          rw (same, cell_at-rest new (replaced new cs) q apart)
          (rw (cell_at-rest c cs q (λ e. apart (cc (e, key)))) rest)
      | inr other ↦ rw (other, rest) refl
    ]

pub cell_at-replaced : (new : Cell) (cells : List Cell) (c : Cell) → cell_at cells new.key ≡ Some c →
    cell_at (replaced new cells) new.key ≡ Some new
cell_at-replaced new [] found is = cc
cell_at-replaced new (c ∷ cs) found is =
    elim (cases_Bool (c.key == new.key)) [
      | inl same ↦ rw same (cell_at-first new (replaced new cs) new.key refl)
      | inr other ↦
          let apart = eqb-false c.key new.key other in
          let rest : cell_at cs new.key ≡ Some found = rw (cell_at-rest c cs new.key apart) at is in
          rw other (rw (cell_at-rest c (replaced new cs) new.key apart) (cell_at-replaced new cs found rest))
    ]

-- ---- added ----

pub cell_at-added_other : (new : Cell) (cells : List Cell) (q : ℕ) → (new.key ≡ q → ⊥) →
    cell_at (added new cells) q ≡ cell_at cells q
cell_at-added_other new [] q apart = cell_at-rest new [] q apart
cell_at-added_other new (c ∷ cs) q apart =
    let rest = cell_at-added_other new cs q apart in
    elim (cases_Bool (nat_lt new.key c.key)) [
      | inl before ↦ rw before (cell_at-rest new (c ∷ cs) q apart)
      | inr behind ↦ rw (behind, rest) refl
    ]

pub cell_at-added : (new : Cell) (cells : List Cell) → cell_at cells new.key ≡ None →
    cell_at (added new cells) new.key ≡ Some new
cell_at-added new [] none = cell_at-first new [] new.key refl
cell_at-added new (c ∷ cs) none =
    elim (cases_Bool (nat_lt new.key c.key)) [
      | inl before ↦ rw before (cell_at-first new (c ∷ cs) new.key refl)
      | inr behind ↦
          rw (behind, cell_at-rest c (added new cs) new.key (absent-first c cs new.key none))
          (cell_at-added new cs (absent-rest c cs new.key none))
    ]

-- the first key is that of the record that was added, or the first of the others
added-first : (x : ℕ) (new : Cell) (cells : List Cell) → x < new.key →
    (0 < length (keys_of cells) → x < get_or (keys_of cells) 0 0) →
    x < get_or (keys_of (added new cells)) 0 0
added-first x new [] below first = below
added-first x new (c ∷ cs) below first =
    elim (cases_Bool (nat_lt new.key c.key)) [
      | inl before ↦ rw before below
      | inr behind ↦ rw behind (first (omega arith))
    ]

pub rising-added : (new : Cell) (cells : List Cell) → cell_at cells new.key ≡ None →
    IsStrictlyIncreasing (keys_of cells) → IsStrictlyIncreasing (keys_of (added new cells))
rising-added new [] none up = increasing-cons new.key [] (λ some. absurd (omega (arith, some))) up
rising-added new (c ∷ cs) none up =
    elim (cases_Bool (nat_lt new.key c.key)) [
      | inl before ↦
          let below = ltb-true new.key c.key before in
          rw before (increasing-cons new.key (keys_of (c ∷ cs)) (λ some. below) up)
      | inr behind ↦
          let from = ltb-false new.key c.key behind in
          let apart = absent-first c cs new.key none in
          let below : c.key < new.key =
          elim (cases_Bool (c.key == new.key)) [
            | inl same ↦ absurd (apart (eqb-true c.key new.key same))
            | inr other ↦ omega (arith, eqb-false c.key new.key other)
          ] in
          let rest = rising-added new cs (absent-rest c cs new.key none) (increasing-tail c.key (keys_of cs) up) in
          rw behind
          (increasing-cons c.key (keys_of (added new cs))
          (λ some. added-first c.key new cs below (increasing-first c.key (keys_of cs) up)) rest)
    ]

pub All-added : (P : Cell → Type 0) (new : Cell) (cells : List Cell) → P new → All P cells →
    All P (added new cells)
All-added P new [] own all = All-cons P new [] own all
All-added P new (c ∷ cs) own all =
    elim (cases_Bool (nat_lt new.key c.key)) [
      | inl before ↦ rw before (All-cons P new (c ∷ cs) own all)
      | inr behind ↦
          rw behind
          (All-cons P c (added new cs) (All-head P c cs all)
          (All-added P new cs own (All-tail P c cs all)))
    ]

pub All-replaced : (P : Cell → Type 0) (new : Cell) (cells : List Cell) →
    ((c : Cell) → c.key ≡ new.key → P c → P new) → All P cells → All P (replaced new cells)
All-replaced P new [] step all = all
All-replaced P new (c ∷ cs) step all =
    let rest = All-replaced P new cs step (All-tail P c cs all) in
    let here = All-head P c cs all in
    elim (cases_eq c.key new.key) [
      | inl same ↦
          All-same P (replaced new (c ∷ cs)) (new ∷ replaced new cs) (replaced-first new c cs same)
          (All-cons P new (replaced new cs) (step c same here) rest)
      | inr apart ↦
          All-same P (replaced new (c ∷ cs)) (c ∷ replaced new cs) (replaced-rest new c cs apart)
          (All-cons P c (replaced new cs) here rest)
    ]

-- ---- records that fit ----

pub AreRecords-replaced : (Has : ℕ → Type 0) (new : Cell) (cells : List Cell) →
    new.version ≤ last_version → AreRecords Has cells → AreRecords Has (replaced new cells)
AreRecords-replaced Has new cells version all =
    record {
      rising = rw (keys_of-replaced new cells) all.rising;
      own =
          All-replaced (λ (c : Cell). Has c.key) new cells (λ c same has. rw (sym same) has) all.own;
      versions =
          All-replaced (λ (c : Cell). c.version ≤ last_version) new cells (λ c same less. version)
          all.versions;
    }

pub AreRecords-added : (Has : ℕ → Type 0) (new : Cell) (cells : List Cell) →
    new.version ≤ last_version → Has new.key → cell_at cells new.key ≡ None →
    AreRecords Has cells → AreRecords Has (added new cells)
AreRecords-added Has new cells version has none all =
    record {
      rising = rising-added new cells none all.rising;
      own = All-added (λ (c : Cell). Has c.key) new cells has all.own;
      versions = All-added (λ (c : Cell). c.version ≤ last_version) new cells version all.versions;
    }
