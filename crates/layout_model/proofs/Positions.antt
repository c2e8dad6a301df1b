-- Where a key belongs there is a group, a lane and a part; and which one has a key once another group or lane stands there.
use Rattle.std.proofs.Common.{◌≡◌, ◌⊎◌, ℕ, ◌<◌, List, length, set, refl, sym, arith, inl, inr}
use Rattle.std.proofs.lemmas.Bool.{cases_eq}
use Rattle.std.proofs.lemmas.List.{get_or-map, get_or-set_other, get_or-set_same, length-map, map-set, set-get_or}
use Rattle.std.proofs.lemmas.List.Sums.{count_by-le-length}
use Rattle.std.specs.Prelude.{nat_le}
use Rattle.word_layout.specs.Shape.{Shape, parts_in}
use Rattle.layout_model.specs.Cells.{Cell}
use Rattle.layout_model.specs.Groups.{Group, Lane, cuts_of, group_at, group_for, group_position, lane_for, no_group, no_lane, pivots_of, with_lane_rows, with_rows}
use Rattle.layout_model.specs.Layout.{part_number}
use Rattle.layout_model.specs.Stretches.{position_of}
use Rattle.layout_model.specs.WellFormed.{phases_of}

-- ---- positions ----

-- a key belongs to one of some neighbours
pub position_of-within : (begins : List ℕ) (k : ℕ) → 0 < length begins →
    position_of begins k < length begins
position_of-within begins k some =
    let few = count_by-le-length (λ begin. nat_le begin k) begins in omega arith

pub group_position-within : (groups : List Group) (k : ℕ) → 0 < length groups →
    group_position groups k < length groups
group_position-within groups k some =
    let long = length-map groups (λ g. g.pivot) in
    let within = position_of-within (pivots_of groups) k (rw long some) in
    rw long at within

pub lane_position-within : (g : Group) (k : ℕ) → 0 < length g.lanes →
    position_of (cuts_of g) k < length g.lanes
lane_position-within g k some =
    let long = length-map g.lanes (λ lane. lane.cut) in
    let within = position_of-within (cuts_of g) k (rw long some) in
    rw long at within

pub part_number-within : (h : Shape) (k : ℕ) → part_number h k < parts_in h
part_number-within h k =
    let few = count_by-le-length (λ bound. nat_le bound k) h.bounds in omega arith

-- ---- another group at a position ----

-- the pivots are the same where its pivot is
pub pivots_of-set : (groups : List Group) (i : ℕ) (g : Group) → i < length groups →
    g.pivot ≡ (group_at groups i).pivot → pivots_of (set groups i g) ≡ pivots_of groups
pivots_of-set groups i g within same =
    rw (map-set (λ (g : Group). g.pivot) groups i g)
    (rw same
    (rw (sym (get_or-map (λ (g : Group). g.pivot) groups i no_group no_group.pivot within))
    (set-get_or (pivots_of groups) i no_group.pivot)))

-- the phases are the same where its phase is
pub phases_of-set : (groups : List Group) (i : ℕ) (g : Group) → i < length groups →
    g.phase ≡ (group_at groups i).phase → phases_of (set groups i g) ≡ phases_of groups
phases_of-set groups i g within same =
    rw (map-set (λ (g : Group). g.phase) groups i g)
    (rw same
    (rw (sym (get_or-map (λ (g : Group). g.phase) groups i no_group no_group.phase within))
    (set-get_or (phases_of groups) i no_group.phase)))

-- the group of a key is as before, or the key belongs to the position, and its group is the new one
abbrev pub GroupAfter : List Group → ℕ → Group → ℕ → Type 0
GroupAfter groups i g q =
    (group_for (set groups i g) q ≡ group_for groups q)
    ⊎ ((group_position groups q ≡ i) × (group_for (set groups i g) q ≡ g))

pub group_for-set : (groups : List Group) (i : ℕ) (g : Group) (q : ℕ) → i < length groups →
    g.pivot ≡ (group_at groups i).pivot → GroupAfter groups i g q
group_for-set groups i g q within same =
    let pivots = pivots_of-set groups i g within same in
    elim (cases_eq (group_position groups q) i) [
      | inl here ↦
          inr (here, rw (pivots, here) (get_or-set_same groups i g no_group within))
      | inr apart ↦
          inl (rw pivots (get_or-set_other groups i (group_position groups q) g no_group apart))
    ]

-- the phase of a key's group is as before, where the phase of the new one is
pub phase_for-set : (groups : List Group) (i : ℕ) (g : Group) (q : ℕ) → i < length groups →
    g.pivot ≡ (group_at groups i).pivot → g.phase ≡ (group_at groups i).phase →
    (group_for (set groups i g) q).phase ≡ (group_for groups q).phase
phase_for-set groups i g q within same phase =
    elim (group_for-set groups i g q within same) [
      | inl before ↦ rw before refl
      | inr after ↦ rw (after.1, after.0) phase
    ]

-- ---- other rows in a lane ----

pub cuts_of-with_rows : (k : ℕ) (rows : List Cell) (g : Group) → 0 < length g.lanes →
    cuts_of (with_rows k rows g) ≡ cuts_of g
cuts_of-with_rows k rows g some =
    let i = position_of (cuts_of g) k in
    let within = lane_position-within g k some in
    rw (map-set (λ (lane : Lane). lane.cut) g.lanes i (with_lane_rows rows (lane_for g k)))
    (rw (sym (get_or-map (λ (lane : Lane). lane.cut) g.lanes i no_lane no_lane.cut within))
    (set-get_or (cuts_of g) i no_lane.cut))

-- the lane of a key is as before, or it is the one with other rows
abbrev pub LaneAfter : ℕ → List Cell → Group → ℕ → Type 0
LaneAfter k rows g q =
    (lane_for (with_rows k rows g) q ≡ lane_for g q)
    ⊎ ((position_of (cuts_of g) q ≡ position_of (cuts_of g) k)
    × (lane_for (with_rows k rows g) q ≡ with_lane_rows rows (lane_for g k)))

pub lane_for-with_rows : (k : ℕ) (rows : List Cell) (g : Group) (q : ℕ) → 0 < length g.lanes →
    LaneAfter k rows g q
lane_for-with_rows k rows g q some =
    let cuts = cuts_of-with_rows k rows g some in
    let i = position_of (cuts_of g) k in
    let within = lane_position-within g k some in
    let lane = with_lane_rows rows (lane_for g k) in
    elim (cases_eq (position_of (cuts_of g) q) i) [
      | inl here ↦ inr (here, rw (cuts, here) (get_or-set_same g.lanes i lane no_lane within))
      | inr apart ↦
          inl (rw cuts (get_or-set_other g.lanes i (position_of (cuts_of g) q) lane no_lane apart))
    ]
