-- Which records stand at a spot of a key once others were written at a spot of one key.
use Rattle.std.proofs.Common.{◌≡◌, ℕ, ◌<◌, Some, List, length, refl, ap, ◌∙◌, inl, inr}
use Rattle.std.proofs.lemmas.List.{get_or-set_same}
use Rattle.layout_model.specs.Cells.{Cell, cell_at}
use Rattle.layout_model.specs.Groups.{Group, cuts_of, group_for, group_position, lane_for, no_group, no_lane, with_array, with_group, with_lane_rows, with_rows}
use Rattle.layout_model.specs.Layout.{Part}
use Rattle.layout_model.specs.Phase.{Phase}
use Rattle.layout_model.specs.Phase as phase
use Rattle.layout_model.specs.Records.{InArray, InBuffer, InNewBuffer, Spot, cells_for, if_opened, new_spot, with_cells}
use Rattle.layout_model.specs.Stretches.{position_of}
use Rattle.layout_model.proofs.Positions.{cuts_of-with_rows, group_for-set, group_position-within, lane_for-with_rows, lane_position-within, phase_for-set, pivots_of-set}

-- ---- spots ----

-- the spot is there for the key: a new buffer is where the key's group was opened
abbrev pub IsSpot : Part → ℕ → Spot → Type 0
IsSpot p k InArray = Unit {0}
IsSpot p k InBuffer = Unit {0}
IsSpot p k InNewBuffer = (group_for p.chain k).phase ≡ phase.Opened

-- there are groups and lanes for each key that belongs to the part
pub record HasPlaces (p : Part) : Type 0 where
  pub chain : 0 < length p.chain
  pub lanes : (k : ℕ) → 0 < length (group_for p.chain k).lanes
  pub coming : (k : ℕ) → (group_for p.chain k).phase ≡ phase.Opened → 0 < length p.coming
  pub coming_lanes : (k : ℕ) → (group_for p.chain k).phase ≡ phase.Opened →
      0 < length (group_for p.coming k).lanes

if_opened-some : (is : Phase) (rows : List Cell) (k : ℕ) (c : Cell) →
    cell_at (if_opened is rows) k ≡ Some c → is ≡ phase.Opened
if_opened-some phase.Open rows k c e = cc
if_opened-some phase.Frozen rows k c e = cc
if_opened-some phase.Opened rows k c e = refl

-- where a record of the key stands there is a spot
pub IsSpot-from_cell : (p : Part) (k : ℕ) (spot : Spot) (c : Cell) →
    cell_at (cells_for p k spot) k ≡ Some c → IsSpot p k spot
IsSpot-from_cell p k InArray c e = tt
IsSpot-from_cell p k InBuffer c e = tt
IsSpot-from_cell p k InNewBuffer c e =
    if_opened-some (group_for p.chain k).phase (lane_for (group_for p.coming k) k).rows k c e

new_spot-is : (p : Part) (k : ℕ) (is : Phase) (spot : Spot) → (group_for p.chain k).phase ≡ is →
    new_spot is ≡ Some spot → IsSpot p k spot
new_spot-is p k phase.Open InArray e named = tt
new_spot-is p k phase.Open InBuffer e named = tt
new_spot-is p k phase.Open InNewBuffer e named = cc
new_spot-is p k phase.Frozen spot e named = cc
new_spot-is p k phase.Opened InArray e named = tt
new_spot-is p k phase.Opened InBuffer e named = tt
new_spot-is p k phase.Opened InNewBuffer e named = e

-- where a key without a value is put there is a spot
pub IsSpot-from_named : (p : Part) (k : ℕ) (spot : Spot) →
    new_spot (group_for p.chain k).phase ≡ Some spot → IsSpot p k spot
IsSpot-from_named p k spot named = new_spot-is p k (group_for p.chain k).phase spot refl named

-- ---- the records of the written key ----

-- the group of the key itself is the new one
own_group : (groups : List Group) (k : ℕ) (g : Group) → 0 < length groups →
    g.pivot ≡ (group_for groups k).pivot → group_for (with_group k g groups) k ≡ g
own_group groups k g some same =
    let within = group_position-within groups k some in
    rw (pivots_of-set groups (group_position groups k) g within same)
    (get_or-set_same groups (group_position groups k) g no_group within)

-- its lane is the one with other rows
own_lane : (k : ℕ) (rows : List Cell) (g : Group) → 0 < length g.lanes →
    (lane_for (with_rows k rows g) k).rows ≡ rows
own_lane k rows g some =
    let within = lane_position-within g k some in
    rw (
      cuts_of-with_rows k rows g some,
      get_or-set_same g.lanes (position_of (cuts_of g) k) (with_lane_rows rows (lane_for g k)) no_lane within,
    )
    refl

own_rows : (groups : List Group) (k : ℕ) (rows : List Cell) → 0 < length groups →
    0 < length (group_for groups k).lanes →
    (lane_for (group_for (with_group k (with_rows k rows (group_for groups k)) groups) k) k).rows ≡ rows
own_rows groups k rows some lanes =
    ap (λ (g : Group). (lane_for g k).rows)
    (own_group groups k (with_rows k rows (group_for groups k)) some refl)
    ∙ own_lane k rows (group_for groups k) lanes

pub cells_for-same : (p : Part) (k : ℕ) (spot : Spot) (cells : List Cell) → HasPlaces p →
    IsSpot p k spot → cells_for (with_cells k spot cells p) k spot ≡ cells
cells_for-same p k InArray cells has is =
    ap (λ (g : Group). g.array)
    (own_group p.chain k (with_array cells (group_for p.chain k)) has.chain refl)
cells_for-same p k InBuffer cells has is =
    own_rows p.chain k cells has.chain (has.lanes k)
cells_for-same p k InNewBuffer cells has is =
    let coming = with_group k (with_rows k cells (group_for p.coming k)) p.coming in
    ap (λ (is : Phase). if_opened is (lane_for (group_for coming k) k).rows) is
    ∙ own_rows p.coming k cells (has.coming k is) (has.coming_lanes k is)

-- ---- the records of any key ----

-- a key has the same record in both lists
abbrev SameRecord : ℕ → List Cell → List Cell → Type 0
SameRecord q cells others = cell_at cells q ≡ cell_at others q

if_opened-same : (is : Phase) (q : ℕ) (rows others : List Cell) → SameRecord q rows others →
    SameRecord q (if_opened is rows) (if_opened is others)
if_opened-same phase.Open q rows others same = refl
if_opened-same phase.Frozen q rows others same = refl
if_opened-same phase.Opened q rows others same = same

-- with other rows in a lane, in which the key has the same record
lane-same : (k : ℕ) (rows : List Cell) (g : Group) (q : ℕ) → 0 < length g.lanes →
    SameRecord q rows (lane_for g k).rows →
    SameRecord q (lane_for (with_rows k rows g) q).rows (lane_for g q).rows
lane-same k rows g q some same =
    elim (lane_for-with_rows k rows g q some) [
      | inl before ↦ rw before refl
      | inr after ↦ rw (after.1, after.0) same
    ]

-- the same in one of several groups
group_lane-same : (groups : List Group) (k : ℕ) (rows : List Cell) (q : ℕ) → 0 < length groups →
    0 < length (group_for groups k).lanes → SameRecord q rows (lane_for (group_for groups k) k).rows →
    SameRecord q (lane_for (group_for (with_group k (with_rows k rows (group_for groups k)) groups) q) q).rows
    (lane_for (group_for groups q) q).rows
group_lane-same groups k rows q some lanes same =
    let at = group_position groups k in
    elim (group_for-set groups at (with_rows k rows (group_for groups k)) q (group_position-within groups k some) refl) [
      | inl before ↦ rw before refl
      | inr after ↦ rw (after.1, after.0) (lane-same k rows (group_for groups k) q lanes same)
    ]

-- the array of a key's group, with other rows in a lane
group_array-same : (groups : List Group) (k : ℕ) (rows : List Cell) (q : ℕ) → 0 < length groups →
    SameRecord q (group_for (with_group k (with_rows k rows (group_for groups k)) groups) q).array
    (group_for groups q).array
group_array-same groups k rows q some =
    let at = group_position groups k in
    elim (group_for-set groups at (with_rows k rows (group_for groups k)) q (group_position-within groups k some) refl) [
      | inl before ↦ rw before refl
      | inr after ↦ rw (after.1, after.0) refl
    ]

-- with other records in an array, in which the key has the same record
array-same : (groups : List Group) (k : ℕ) (cells : List Cell) (q : ℕ) → 0 < length groups →
    SameRecord q cells (group_for groups k).array →
    SameRecord q (group_for (with_group k (with_array cells (group_for groups k)) groups) q).array
    (group_for groups q).array
array-same groups k cells q some same =
    let at = group_position groups k in
    elim (group_for-set groups at (with_array cells (group_for groups k)) q (group_position-within groups k some) refl) [
      | inl before ↦ rw before refl
      | inr after ↦ rw (after.1, after.0) same
    ]

-- the lane of a key, with other records in an array
array_lane-same : (groups : List Group) (k : ℕ) (cells : List Cell) (q : ℕ) → 0 < length groups →
    SameRecord q (lane_for (group_for (with_group k (with_array cells (group_for groups k)) groups) q) q).rows
    (lane_for (group_for groups q) q).rows
array_lane-same groups k cells q some =
    let at = group_position groups k in
    elim (group_for-set groups at (with_array cells (group_for groups k)) q (group_position-within groups k some) refl) [
      | inl before ↦ rw before refl
      | inr after ↦ rw (after.1, after.0) refl
    ]

-- a key has the record at a spot that it had, where it has the same one in the records that were written there
pub cells_for-with_cells : (p : Part) (k : ℕ) (spot : Spot) (cells : List Cell) (q : ℕ) (at : Spot) →
    HasPlaces p → IsSpot p k spot →
    (at ≡ spot → SameRecord q cells (cells_for p k spot)) →
    SameRecord q (cells_for (with_cells k spot cells p) q at) (cells_for p q at)
cells_for-with_cells p k InArray cells q InArray has is same =
    array-same p.chain k cells q has.chain (same refl)
cells_for-with_cells p k InArray cells q InBuffer has is same =
    array_lane-same p.chain k cells q has.chain
cells_for-with_cells p k InArray cells q InNewBuffer has is same =
    let within = group_position-within p.chain k has.chain in
    rw (phase_for-set p.chain (group_position p.chain k) (with_array cells (group_for p.chain k)) q within refl refl)
    refl
cells_for-with_cells p k InBuffer cells q InArray has is same =
    group_array-same p.chain k cells q has.chain
cells_for-with_cells p k InBuffer cells q InBuffer has is same =
    group_lane-same p.chain k cells q has.chain (has.lanes k) (same refl)
cells_for-with_cells p k InBuffer cells q InNewBuffer has is same =
    let within = group_position-within p.chain k has.chain in
    rw (phase_for-set p.chain (group_position p.chain k) (with_rows k cells (group_for p.chain k)) q within refl refl)
    refl
cells_for-with_cells p k InNewBuffer cells q InArray has is same = refl
cells_for-with_cells p k InNewBuffer cells q InBuffer has is same = refl
cells_for-with_cells p k InNewBuffer cells q InNewBuffer has is same =
    let own : SameRecord q cells (lane_for (group_for p.coming k) k).rows = rw is at (same refl) in
    if_opened-same (group_for p.chain q).phase q _ _
    (group_lane-same p.coming k cells q (has.coming k is) (has.coming_lanes k is) own)
