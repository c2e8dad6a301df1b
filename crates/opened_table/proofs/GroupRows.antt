-- The rows of a group, or of a part, at the opening: their keys, their order, and where each stands.
use Rattle.std.proofs.Common.{◌≡◌, ◌≢◌, ⊎_elim, ℕ, zero, suc, ◌+◌, ◌<◌, ◌≤◌, Some, List, [], ◌∷◌}
use Rattle.std.proofs.Common.{refl, sym, ap, ◌∙◌, subst, arith, take, drop}
use Rattle.std.specs.List.{AllByRecursion, slice_get}
use Rattle.std.proofs.lemmas.Bool.{cases_lt}
use mathlib.Core.Logic.{dite}
use native.Mathlib.Decide.{ℕ_discrete}
use Rattle.map_model.specs.Map.{Map, IsRising}
use Rattle.word_layout.specs.Addresses.{array_address}
use Rattle.word_layout.specs.Shape.{Shape}
use Rattle.index_machine.specs.OpeningPlan.{keys_for}
use Rattle.index_machine.specs.OpeningRows.{index_behind, row_from}
use Rattle.index_machine.proofs.Executions.{choice-same, choice-other}
use Rattle.index_machine.proofs.OpeningKeys.{IsStretch, from_all, keys_for-other, keys_for-same, none_taken, stretch_step}
use Rattle.index_machine.proofs.OpeningRows.{GoesOn, goes_on, next_other, next_same, seats_apart}
use Rattle.opened_table.specs.Laying.{keys_in, rows_for}

-- ---- one more row ----

rows-same : (of : ℕ → ℕ) (group : ℕ) (r : ℕ × ℕ) (rows : Map) → of r.0 ≡ group →
    rows_for of group (r ∷ rows) ≡ r ∷ rows_for of group rows
rows-same of group r rows is =
    choice-same (of r.0) group (r ∷ rows_for of group rows) (rows_for of group rows) is

rows-other : (of : ℕ → ℕ) (group : ℕ) (r : ℕ × ℕ) (rows : Map) → of r.0 ≢ group →
    rows_for of group (r ∷ rows) ≡ rows_for of group rows
rows-other of group r rows is =
    choice-other (of r.0) group (r ∷ rows_for of group rows) (rows_for of group rows) is

-- ---- the rows of a group, or of a part, among others ----

-- their keys are the group's
pub keys_of_group : (of : ℕ → ℕ) (group : ℕ) (rows : Map) →
    keys_for of group rows ≡ keys_in (rows_for of group rows)
keys_of_group of group [] = refl
keys_of_group of group (r ∷ rows) =
    let first : ℕ = of r.0 in
    let later : List ℕ = keys_for of group rows in
    dite (ℕ_discrete first group)
    (λ (same : first ≡ group).
    choice-same first group (r.0 ∷ later) later same
    ∙ (ap (λ (z : List ℕ). r.0 ∷ z) (keys_of_group of group rows)
    ∙ sym (ap keys_in (rows-same of group r rows same))))
    (λ (other : first ≢ group).
    choice-other first group (r.0 ∷ later) later other
    ∙ (keys_of_group of group rows ∙ sym (ap keys_in (rows-other of group r rows other))))

-- what all rows keep, they keep
all_of_group : (P : ℕ × ℕ → Type 0) (of : ℕ → ℕ) (group : ℕ) (rows : Map) → AllByRecursion P rows →
    AllByRecursion P (rows_for of group rows)
all_of_group P of group [] all = tt
all_of_group P of group (r ∷ rows) all =
    dite (ℕ_discrete (of r.0) group)
    (λ (same : of r.0 ≡ group).
    subst (AllByRecursion P) (sym (rows-same of group r rows same))
    (all.0, all_of_group P of group rows all.1))
    (λ (other : of r.0 ≢ group).
    subst (AllByRecursion P) (sym (rows-other of group r rows other))
    (all_of_group P of group rows all.1))

pub rising_of_group : (of : ℕ → ℕ) (group : ℕ) (rows : Map) → IsRising rows →
    IsRising (rows_for of group rows)
rising_of_group of group [] rising = tt
rising_of_group of group (r ∷ rows) rising =
    dite (ℕ_discrete (of r.0) group)
    (λ (same : of r.0 ≡ group).
    subst IsRising (sym (rows-same of group r rows same)) (
      all_of_group (λ (q : ℕ × ℕ). r.0 < q.0) of group rows rising.0,
      rising_of_group of group rows rising.1,
    ))
    (λ (other : of r.0 ≢ group).
    subst IsRising (sym (rows-other of group r rows other)) (rising_of_group of group rows rising.1))

-- where all rows are the group's, they are those rows
pub all_rows : (of : ℕ → ℕ) (group : ℕ) (rows : Map) →
    AllByRecursion (λ (r : ℕ × ℕ). of r.0 ≡ group) rows → rows_for of group rows ≡ rows
all_rows of group [] all = refl
all_rows of group (r ∷ rows) all =
    rows-same of group r rows all.0 ∙ ap (λ (z : Map). r ∷ z) (all_rows of group rows all.1)

-- where none is, there are none
pub no_rows : (of : ℕ → ℕ) (group : ℕ) (rows : Map) →
    AllByRecursion (λ (r : ℕ × ℕ). of r.0 ≢ group) rows → rows_for of group rows ≡ []
no_rows of group [] all = refl
no_rows of group (r ∷ rows) all = rows-other of group r rows all.0 ∙ no_rows of group rows all.1

-- ---- a stretch of the rows ----

-- where all rows with one number are among those with another by another map, and are a stretch of them, they are
-- taken from there
pub rows_taken : (of outer : ℕ → ℕ) (g p : ℕ) (rows : Map) →
    AllByRecursion (λ (r : ℕ × ℕ). of r.0 ≡ g → outer r.0 ≡ p) rows → (from size : ℕ) →
    IsStretch of g from size (keys_for outer p rows) →
    rows_for of g rows ≡ take size (drop from (rows_for outer p rows))
rows_taken of outer g p [] all from size is = none_taken from size (rows_for of g []) refl
rows_taken of outer g p (r ∷ rs) all from size is =
    let own : Map = rows_for of g rs in
    let among : Map = rows_for outer p rs in
    let keys : List ℕ = keys_for outer p rs in
    let rest : (f n : ℕ) → IsStretch of g f n keys → own ≡ take n (drop f among) =
    λ f n. rows_taken of outer g p rs all.1 f n
    in
    dite (ℕ_discrete (outer r.0) p)
    (λ (here : outer r.0 ≡ p).
    stretch_step of g r.0 r own among keys rest from size
    (subst (IsStretch of g from size) (keys_for-same outer p r rs here) is)
    ∙ ap (λ (z : Map). take size (drop from z)) (sym (rows-same outer p r rs here)))
    (λ (apart : outer r.0 ≢ p).
    rows-other of g r rs (λ e. apart (all.0 e))
    ∙ (rest from size (subst (IsStretch of g from size) (keys_for-other outer p r rs apart) is)
    ∙ ap (λ (z : Map). take size (drop from z)) (sym (rows-other outer p r rs apart))))

-- ---- where they stand ----

-- the row at this place behind the first one's, by the rows of the place's group
abbrev StandsAt : Shape → (ℕ → ℕ) → ℕ → ℕ → Map → ℕ → ℕ → Type 0
StandsAt s of last filled rows group n =
    row_from s of last filled rows (array_address s group (index_behind last filled group + n))
    ≡ slice_get (rows_for of group rows) n

-- a first row before others, where those stand as they should
module _ (s : Shape) (of : ℕ → ℕ) (last filled : ℕ) (q : ℕ × ℕ) (rows : Map) (group : ℕ)
    (on : GoesOn s of last filled (q ∷ rows)) where
  abbrev first : ℕ
  first = of q.0

  abbrev i : ℕ
  i = index_behind last filled first

  abbrev base : ℕ
  base = index_behind last filled group

  -- the later rows stand as they should
  abbrev LaterStand : Type 0
  LaterStand = (m : ℕ) → index_behind first (i + 1) group + m < s.limits.group_size →
      StandsAt s of first (i + 1) rows group m

  first_room : i < s.limits.group_size
  first_room =
      let room = on.room first in
      let own = next_same of last filled first q rows refl in
      omega (arith, room, own.1)

  -- behind an earlier group's row the group's array begins; behind a later group's row are none of the group
  counted : (n : ℕ) → first ≢ group →
      slice_get (rows_for of group rows) (base + n) ≡ slice_get (rows_for of group rows) n
  counted n other =
      ⊎_elim
      (λ (behind : group < first).
      let none : rows_for of group rows ≡ [] =
      no_rows of group rows
      (from_all (λ (r : ℕ × ℕ). first ≤ of r.0)
      (λ (r : ℕ × ℕ). of r.0 ≢ group) rows (λ r least e. omega arith)
      (goes_on s of last filled q rows on).behind)
      in
      ap (λ (z : Map). slice_get z (base + n)) none ∙ sym (ap (λ (z : Map). slice_get z n) none))
      (λ (after : first ≤ group).
      let least = on.behind.0 in
      let zero_base : base ≡ 0 = choice-other group last filled 0 (λ e. other (omega arith)) in
      let same : base + n ≡ n = omega arith in
      ap (slice_get (rows_for of group rows)) same)
      (cases_lt group first)

  -- a row of another group is not at the place
  pub stands-other : (n : ℕ) → first ≢ group → base + n < s.limits.group_size → LaterStand →
      StandsAt s of last filled (q ∷ rows) group n
  stands-other n other below later =
      let place : ℕ = array_address s group (base + n) in
      let begins : index_behind first (i + 1) group ≡ 0 = (next_other of last filled group q rows other).0 in
      let same : index_behind first (i + 1) group + (base + n) ≡ base + n = omega (arith, begins) in
      choice-other (array_address s first i) place (Some q) (row_from s of first (i + 1) rows place)
      (λ e. other (seats_apart s first group i (base + n) first_room below e).0)
      ∙ (ap (λ (z : ℕ). row_from s of first (i + 1) rows (array_address s group z)) (sym same)
      ∙ (later (base + n) (omega (arith, same))
      ∙ (counted n other ∙ sym (ap (λ (z : Map). slice_get z n) (rows-other of group q rows other)))))

  -- a row of the group is the first behind those that fill it so far
  pub stands-same : (n : ℕ) → first ≡ group → base + n < s.limits.group_size → LaterStand →
      StandsAt s of last filled (q ∷ rows) group n
  stands-same zero same below later =
      let index : i ≡ base + 0 = ap (index_behind last filled) same ∙ omega arith in
      let at : array_address s first i ≡ array_address s group (base + 0) =
      ap (λ (z : ℕ). array_address s z i) same ∙ ap (array_address s group) index
      in
      choice-same (array_address s first i) (array_address s group (base + 0)) (Some q)
      (row_from s of first (i + 1) rows (array_address s group (base + 0))) at
      ∙ sym (ap (λ (z : Map). slice_get z 0) (rows-same of group q rows same))
  stands-same (suc m) same below later =
      let place : ℕ = array_address s group (base + suc m) in
      let base_is : i ≡ base = ap (index_behind last filled) same in
      let next = (next_same of last filled group q rows same).0 in
      let index : base + suc m ≡ index_behind first (i + 1) group + m = omega (arith, next) in
      choice-other (array_address s first i) place (Some q) (row_from s of first (i + 1) rows place)
      (λ e.
      let one = seats_apart s first group i (base + suc m) first_room below e in
      let same_index = one.1 in
      absurd (omega arith))
      ∙ (ap (λ (z : ℕ). row_from s of first (i + 1) rows (array_address s group z)) index
      ∙ (later m (omega (arith, index, below))
      ∙ sym (ap (λ (z : Map). slice_get z (suc m)) (rows-same of group q rows same))))

-- at each index of a group's array stands the group's row with this number
pub row_at : (s : Shape) (of : ℕ → ℕ) (last filled : ℕ) (rows : Map) (group n : ℕ) →
    GoesOn s of last filled rows →
    index_behind last filled group + n < s.limits.group_size → StandsAt s of last filled rows group n
row_at s of last filled [] group n on below = refl
row_at s of last filled (q ∷ rows) group n on below =
    let first : ℕ = of q.0 in
    let i : ℕ = index_behind last filled first in
    let later : (m : ℕ) → index_behind first (i + 1) group + m < s.limits.group_size →
    StandsAt s of first (i + 1) rows group m =
    λ m less. row_at s of first (i + 1) rows group m (goes_on s of last filled q rows on) less
    in
    dite (ℕ_discrete first group)
    (λ (same : first ≡ group). stands-same s of last filled q rows group on n same below later)
    (λ (other : first ≢ group). stands-other s of last filled q rows group on n other below later)
