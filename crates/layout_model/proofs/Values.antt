-- Which values keys have once a record of one key was written: that key has the record's, and all others have theirs.
use Rattle.std.proofs.Common.{◌≡◌, ◌⊎◌, ℕ, Option, Some, None, List, refl, sym, ◌∙◌, inl, inr}
use Rattle.std.proofs.lemmas.Bool.{cases_eq}
use Rattle.layout_model.specs.Cells.{Cell, cell_at, live_at, unless_removed}
use Rattle.layout_model.specs.Layout.{Part}
use Rattle.layout_model.specs.Records.{Found, InArray, InBuffer, InNewBuffer, Spot, cells_for, found_at, live_record, with_cells}
use Rattle.layout_model.specs.WellFormed.{HasValueAt, HaveOneValue}
use Rattle.layout_model.proofs.Cases.{HasValue}
use Rattle.layout_model.proofs.Lookups.{HasPlaces, IsSpot, cells_for-same, cells_for-with_cells}

-- ---- spots ----

cases_Spot : (one other : Spot) → (one ≡ other) ⊎ (one ≡ other → ⊥)
cases_Spot InArray InArray = inl refl
cases_Spot InArray InBuffer = inr (λ e. cc)
cases_Spot InArray InNewBuffer = inr (λ e. cc)
cases_Spot InBuffer InArray = inr (λ e. cc)
cases_Spot InBuffer InBuffer = inl refl
cases_Spot InBuffer InNewBuffer = inr (λ e. cc)
cases_Spot InNewBuffer InArray = inr (λ e. cc)
cases_Spot InNewBuffer InBuffer = inr (λ e. cc)
cases_Spot InNewBuffer InNewBuffer = inl refl

-- a key has a value at this spot at most
abbrev pub OnlyAt : Part → ℕ → Spot → Type 0
OnlyAt p k spot = (other : Spot) → HasValueAt p k other → other ≡ spot

-- ---- what was found ----

-- nothing is found where nothing is at any spot
nothing_at : (spot : Spot) (o : Option Cell) (elsewhere : Option Found) →
    found_at spot o elsewhere ≡ None → (o ≡ None) × (elsewhere ≡ None)
nothing_at spot None elsewhere e = (refl, e)
nothing_at spot (Some c) elsewhere e = cc

-- a key without a record that has a value has a value at no spot
pub no_value : (p : Part) (k : ℕ) → live_record p k ≡ None → (spot : Spot) → HasValueAt p k spot → ⊥
no_value p k none InArray has =
    let array = nothing_at InArray (live_at (cells_for p k InArray) k) _ none in cc (array.0, has.live)
no_value p k none InBuffer has =
    let array = nothing_at InArray (live_at (cells_for p k InArray) k) _ none in
    let buffer = nothing_at InBuffer (live_at (cells_for p k InBuffer) k) _ array.1 in
    cc (buffer.0, has.live)
no_value p k none InNewBuffer has =
    let array = nothing_at InArray (live_at (cells_for p k InArray) k) _ none in
    let buffer = nothing_at InBuffer (live_at (cells_for p k InBuffer) k) _ array.1 in
    let new = nothing_at InNewBuffer (live_at (cells_for p k InNewBuffer) k) _ buffer.1 in
    cc (new.0, has.live)

-- what was found is a value at its spot
pub value_there : (p : Part) (k : ℕ) (at : Found) → HasValue p k at → HasValueAt p k at.spot
value_there p k at has =
    record { cell = at.cell; live = rw (has.there.there, has.there.live) refl }

none_from_never : (o : Option Cell) → ((c : Cell) → o ≡ Some c → ⊥) → o ≡ None
none_from_never None never = refl
none_from_never (Some c) never = absurd (never c refl)

-- a spot without a value
none_at : (p : Part) (k : ℕ) (spot other : Spot) → OnlyAt p k spot → (other ≡ spot → ⊥) →
    live_at (cells_for p k other) k ≡ None
none_at p k spot other only apart =
    none_from_never (live_at (cells_for p k other) k)
    (λ c is. apart (only other (record { cell = c; live = is })))

-- what is found is what stands at the only spot with a value
pub live_record-only : (p : Part) (k : ℕ) (spot : Spot) → OnlyAt p k spot →
    live_record p k ≡ found_at spot (live_at (cells_for p k spot) k) None
live_record-only p k InArray only =
    rw (none_at p k InArray InBuffer only (λ e. cc), none_at p k InArray InNewBuffer only (λ e. cc)) refl
live_record-only p k InBuffer only =
    rw (none_at p k InBuffer InArray only (λ e. cc), none_at p k InBuffer InNewBuffer only (λ e. cc)) refl
live_record-only p k InNewBuffer only =
    rw (none_at p k InNewBuffer InArray only (λ e. cc), none_at p k InNewBuffer InBuffer only (λ e. cc)) refl

-- ---- what was written ----

-- these records are the ones that stood at a spot of the key, but for the key's own, which has this value now
pub record Writes (p : Part) (k : ℕ) (spot : Spot) (new : Cell) (cells : List Cell) : Type 0 where
  pub places : HasPlaces p
  pub is : IsSpot p k spot
  pub only : OnlyAt p k spot
  pub own : cell_at cells k ≡ Some new
  pub others : (q : ℕ) → (q ≡ k → ⊥) → cell_at cells q ≡ cell_at (cells_for p k spot) q

-- another key has the same record at each spot
written-other : (p : Part) (k : ℕ) (spot : Spot) (new : Cell) (cells : List Cell) (q : ℕ) (at : Spot) →
    Writes p k spot new cells → (q ≡ k → ⊥) →
    cell_at (cells_for (with_cells k spot cells p) q at) q ≡ cell_at (cells_for p q at) q
written-other p k spot new cells q at writes apart =
    cells_for-with_cells p k spot cells q at writes.places writes.is (λ e. writes.others q apart)

-- the key has the same record at each other spot
written-elsewhere : (p : Part) (k : ℕ) (spot : Spot) (new : Cell) (cells : List Cell) (at : Spot) →
    Writes p k spot new cells → (at ≡ spot → ⊥) →
    cell_at (cells_for (with_cells k spot cells p) k at) k ≡ cell_at (cells_for p k at) k
written-elsewhere p k spot new cells at writes apart =
    cells_for-with_cells p k spot cells k at writes.places writes.is (λ e. absurd (apart e))

-- and the record that was written at the spot
written-here : (p : Part) (k : ℕ) (spot : Spot) (new : Cell) (cells : List Cell) →
    Writes p k spot new cells →
    cell_at (cells_for (with_cells k spot cells p) k spot) k ≡ Some new
written-here p k spot new cells writes =
    rw (cells_for-same p k spot cells writes.places writes.is) writes.own

-- the key has a value at that spot at most
pub written-only : (p : Part) (k : ℕ) (spot : Spot) (new : Cell) (cells : List Cell) →
    Writes p k spot new cells → OnlyAt (with_cells k spot cells p) k spot
written-only p k spot new cells writes other has =
    elim (cases_Spot other spot) [
      | inl same ↦ same
      | inr apart ↦
          let before = written-elsewhere p k spot new cells other writes apart in
          writes.only other (record { cell = has.cell; live = rw before at has.live })
    ]

-- each key has a value at one spot at most
pub written-one_value : (p : Part) (k : ℕ) (spot : Spot) (new : Cell) (cells : List Cell) →
    Writes p k spot new cells → HaveOneValue p → HaveOneValue (with_cells k spot cells p)
written-one_value p k spot new cells writes had q one other has also =
    elim (cases_eq q k) [
      | inl same ↦
          let only = written-only p k spot new cells writes in
          let here : HasValueAt (with_cells k spot cells p) k one = rw same at has in
          let there : HasValueAt (with_cells k spot cells p) k other = rw same at also in
          only one here ∙ sym (only other there)
      | inr apart ↦
          let before = written-other p k spot new cells q one writes apart in
          let besides = written-other p k spot new cells q other writes apart in
          had q one other (record { cell = has.cell; live = rw before at has.live })
          (record { cell = also.cell; live = rw besides at also.live })
    ]

-- another key has the same record with a value
pub live_record-other : (p : Part) (k : ℕ) (spot : Spot) (new : Cell) (cells : List Cell) (q : ℕ) →
    Writes p k spot new cells → (q ≡ k → ⊥) →
    live_record (with_cells k spot cells p) q ≡ live_record p q
live_record-other p k spot new cells q writes apart =
    rw (
      written-other p k spot new cells q InArray writes apart,
      written-other p k spot new cells q InBuffer writes apart,
      written-other p k spot new cells q InNewBuffer writes apart,
    ) refl

-- the key has the record that was written, unless that is a removed one
pub live_record-own : (p : Part) (k : ℕ) (spot : Spot) (new : Cell) (cells : List Cell) →
    Writes p k spot new cells →
    live_record (with_cells k spot cells p) k ≡ found_at spot (unless_removed (Some new)) None
live_record-own p k spot new cells writes =
    rw (
      live_record-only (with_cells k spot cells p) k spot (written-only p k spot new cells writes),
      written-here p k spot new cells writes,
    ) refl
