-- A part stays well-formed where records that fit were written at a spot of one of its keys.
use Rattle.std.proofs.Common.{◌≡◌, ℕ, ◌<◌, List, [], length, set, refl, sym, ap, ◌∙◌, subst}
use Rattle.std.proofs.lemmas.List.{length-set, nil_from_length}
use Rattle.std.proofs.lemmas.List.Elements.{All-weaker}
use Rattle.std.specs.List.{Contains}
use Rattle.word_layout.specs.Shape.{Shape}
use Rattle.layout_model.specs.Cells.{Cell}
use Rattle.layout_model.specs.Groups.{Group, cuts_of, group_at, group_for, group_position, lane_for, pivots_of, with_array, with_rows}
use Rattle.layout_model.specs.Layout.{Part, Slot}
use Rattle.layout_model.specs.Phase.{Phase}
use Rattle.layout_model.specs.Phase as phase
use Rattle.layout_model.specs.Records.{InArray, InBuffer, InNewBuffer, Spot, cells_for, if_opened, with_cells}
use Rattle.layout_model.specs.Stage.{Stage}
use Rattle.layout_model.specs.Stage as stage
use Rattle.layout_model.specs.Stretches.{position_of}
use Rattle.layout_model.specs.WellFormed.{AreRecords, AreSlots, ComingAt, CursorAt, HaveOneValue, IsComingKey, IsGroup, IsKeyAt, IsKeyIn, IsSlot, IsWellFormedPart}
use Rattle.layout_model.proofs.GroupLists.{AreGroups-set, AreGroups-weaker, IsGroup-with_array, IsGroup-with_rows}
use Rattle.layout_model.proofs.Lookups.{HasPlaces, IsSpot}
use Rattle.layout_model.proofs.PhaseLaws.{coming-some}
use Rattle.layout_model.proofs.Positions.{group_position-within, lane_position-within, phase_for-set, phases_of-set, pivots_of-set}

-- ---- groups of a part ----

-- the group of a key fits
own_group : (h : Shape) (i : ℕ) (p : Part) (k : ℕ) → IsWellFormedPart h i p →
    IsGroup (IsKeyAt (IsKeyIn h i) (pivots_of p.chain) (group_position p.chain k)) (group_for p.chain k)
own_group h i p k formed =
    formed.chain.each (group_position p.chain k) (group_position-within p.chain k formed.some)

-- where it is opened, new groups are coming
some_coming : (h : Shape) (i : ℕ) (p : Part) (k : ℕ) → IsWellFormedPart h i p →
    (group_for p.chain k).phase ≡ phase.Opened → 0 < length p.coming
some_coming h i p k formed opened =
    coming-some h i p (group_position p.chain k) formed
    (group_position-within p.chain k formed.some) opened

new_group : (h : Shape) (i : ℕ) (p : Part) (k : ℕ) → IsWellFormedPart h i p →
    (group_for p.chain k).phase ≡ phase.Opened →
    IsGroup (IsKeyAt (IsComingKey h i p.chain) (pivots_of p.coming) (group_position p.coming k))
    (group_for p.coming k)
new_group h i p k formed opened =
    formed.coming.each (group_position p.coming k)
    (group_position-within p.coming k (some_coming h i p k formed opened))

pub places-formed : (h : Shape) (i : ℕ) (p : Part) → IsWellFormedPart h i p → HasPlaces p
places-formed h i p formed =
    record {
      chain = formed.some;
      lanes = λ k. (own_group h i p k formed).some;
      coming = λ k opened. some_coming h i p k formed opened;
      coming_lanes = λ k opened. (new_group h i p k formed opened).some;
    }

-- ---- the records at a spot ----

-- the keys that may stand at the spot of a key: those of its group, and in a buffer of its lane
abbrev pub HasKeyFor : Shape → ℕ → Part → ℕ → Spot → ℕ → Type 0
HasKeyFor h i p k InArray = IsKeyAt (IsKeyIn h i) (pivots_of p.chain) (group_position p.chain k)
HasKeyFor h i p k InBuffer =
    let cuts = cuts_of (group_for p.chain k) in
    IsKeyAt (IsKeyAt (IsKeyIn h i) (pivots_of p.chain) (group_position p.chain k)) cuts
    (position_of cuts k)
HasKeyFor h i p k InNewBuffer =
    let cuts = cuts_of (group_for p.coming k) in
    IsKeyAt (IsKeyAt (IsComingKey h i p.chain) (pivots_of p.coming) (group_position p.coming k)) cuts
    (position_of cuts k)

pub records_at : (h : Shape) (i : ℕ) (p : Part) (k : ℕ) (spot : Spot) → IsWellFormedPart h i p →
    IsSpot p k spot → AreRecords (HasKeyFor h i p k spot) (cells_for p k spot)
records_at h i p k InArray formed is = (own_group h i p k formed).array
records_at h i p k InBuffer formed is =
    let own = own_group h i p k formed in
    own.lanes (position_of (cuts_of (group_for p.chain k)) k)
    (lane_position-within (group_for p.chain k) k own.some)
records_at h i p k InNewBuffer formed is =
    let own = new_group h i p k formed is in
    let P : Phase → Type 0 =
    λ is. AreRecords (HasKeyFor h i p k InNewBuffer) (if_opened is (lane_for (group_for p.coming k) k).rows) in
    subst P (sym is)
    (own.lanes (position_of (cuts_of (group_for p.coming k)) k)
    (lane_position-within (group_for p.coming k) k own.some))

-- the key itself may stand there
pub own_key : (h : Shape) (i : ℕ) (p : Part) (k : ℕ) (spot : Spot) → IsKeyIn h i k →
    IsSpot p k spot → HasKeyFor h i p k spot k
own_key h i p k InArray part is = record { has = part; at = refl }
own_key h i p k InBuffer part is = record { has = record { has = part; at = refl }; at = refl }
own_key h i p k InNewBuffer part is =
    record { has = record { has = record { part = part; opened = is }; at = refl }; at = refl }

-- ---- another group ----

-- the cursor is as good in a chain of the same length
pub cursor-same : (at : Stage) (p q : Part) → q.cursor ≡ p.cursor → length q.chain ≡ length p.chain →
    CursorAt at p → CursorAt at q
cursor-same stage.Look p q cursor long within = rw cursor (rw long within)
cursor-same stage.Frozen p q cursor long within = tt
cursor-same stage.Ready p q cursor long within = tt
cursor-same stage.Opened p q cursor long within = tt
cursor-same stage.Installed p q cursor long within = tt
cursor-same stage.Copying p q cursor long within = tt
cursor-same stage.Copied p q cursor long within = tt
cursor-same stage.Reclaiming p q cursor long within = tt

none-same : (groups others : List Group) → length others ≡ length groups → groups ≡ [] → others ≡ []
none-same groups others long none = nil_from_length others (long ∙ ap length none)

-- there are as many new groups
coming-same : (at : Stage) (groups others : List Group) → length others ≡ length groups →
    ComingAt at groups → ComingAt at others
coming-same stage.Opened groups others long some = rw long some
coming-same stage.Look groups others long none = none-same groups others long none
coming-same stage.Frozen groups others long none = none-same groups others long none
coming-same stage.Ready groups others long none = none-same groups others long none
coming-same stage.Installed groups others long none = none-same groups others long none
coming-same stage.Copying groups others long none = none-same groups others long none
coming-same stage.Copied groups others long none = none-same groups others long none
coming-same stage.Reclaiming groups others long none = none-same groups others long none

-- slots name groups by their pivots
slots-same : (least : ℕ) (chain others : List Group) (slots : List Slot) →
    pivots_of others ≡ pivots_of chain → AreSlots least chain slots → AreSlots least others slots
slots-same least chain others slots same all =
    record {
      some = all.some;
      first = all.first;
      rising = all.rising;
      each =
          All-weaker (IsSlot chain) (IsSlot others)
          (λ slot is.
          let P : List ℕ → Type 0 = λ pivots. Contains pivots slot.group in
          record { named = subst P (sym same) is.named; from = is.from }) slots all.each;
    }

-- the part with another group in its chain
abbrev pub with_chain_group : ℕ → Group → Part → Part
with_chain_group at g p = record p { chain = set p.chain at g }

-- the part with another group among the new ones
abbrev pub with_coming_group : ℕ → Group → Part → Part
with_coming_group at g p = record p { coming = set p.coming at g }

pub chain_group-formed : (h : Shape) (i : ℕ) (p : Part) (at : ℕ) (g : Group) →
    IsWellFormedPart h i p → at < length p.chain → g.pivot ≡ (group_at p.chain at).pivot →
    g.phase ≡ (group_at p.chain at).phase →
    IsGroup (IsKeyAt (IsKeyIn h i) (pivots_of p.chain) at) g →
    HaveOneValue (with_chain_group at g p) → IsWellFormedPart h i (with_chain_group at g p)
chain_group-formed h i p at g formed within pivot same own one =
    let long = length-set p.chain at g in
    let pivots = pivots_of-set p.chain at g within pivot in
    record {
      some = rw long formed.some;
      first = rw pivots formed.first;
      chain = AreGroups-set (IsKeyIn h i) p.chain at g within pivot formed.chain own;
      span = formed.span;
      fits = rw long formed.fits;
      phases = rw long (rw (phases_of-set p.chain at g within same) formed.phases);
      coming =
          AreGroups-weaker (IsComingKey h i p.chain) (IsComingKey h i (set p.chain at g))
          (λ k is. record {
            part = is.part;
            opened = rw (phase_for-set p.chain at g k within pivot same) is.opened;
          }) p.coming formed.coming;
      coming_at = formed.coming_at;
      coming_phases = formed.coming_phases;
      one_value = one;
      gone = formed.gone;
      cursor = cursor-same p.stage p (with_chain_group at g p) refl long formed.cursor;
      slots = slots-same _ p.chain (set p.chain at g) p.slots pivots formed.slots;
    }

pub coming_group-formed : (h : Shape) (i : ℕ) (p : Part) (at : ℕ) (g : Group) →
    IsWellFormedPart h i p → at < length p.coming → g.pivot ≡ (group_at p.coming at).pivot →
    g.phase ≡ (group_at p.coming at).phase →
    IsGroup (IsKeyAt (IsComingKey h i p.chain) (pivots_of p.coming) at) g →
    HaveOneValue (with_coming_group at g p) → IsWellFormedPart h i (with_coming_group at g p)
coming_group-formed h i p at g formed within pivot same own one =
    let long = length-set p.coming at g in
    record {
      some = formed.some;
      first = formed.first;
      chain = formed.chain;
      span = formed.span;
      fits = formed.fits;
      phases = formed.phases;
      coming = AreGroups-set (IsComingKey h i p.chain) p.coming at g within pivot formed.coming own;
      coming_at = coming-same p.stage p.coming (set p.coming at g) long formed.coming_at;
      coming_phases = rw long (rw (phases_of-set p.coming at g within same) formed.coming_phases);
      one_value = one;
      gone = formed.gone;
      cursor = cursor-same p.stage p (with_coming_group at g p) refl refl formed.cursor;
      slots = formed.slots;
    }

-- ---- other records at a spot ----

pub with_cells-formed : (h : Shape) (i : ℕ) (p : Part) (k : ℕ) (spot : Spot) (cells : List Cell) →
    IsWellFormedPart h i p → IsSpot p k spot → AreRecords (HasKeyFor h i p k spot) cells →
    HaveOneValue (with_cells k spot cells p) → IsWellFormedPart h i (with_cells k spot cells p)
with_cells-formed h i p k InArray cells formed is all one =
    chain_group-formed h i p (group_position p.chain k) (with_array cells (group_for p.chain k)) formed
    (group_position-within p.chain k formed.some) refl refl
    (IsGroup-with_array _ cells (group_for p.chain k) (own_group h i p k formed) all) one
with_cells-formed h i p k InBuffer cells formed is all one =
    chain_group-formed h i p (group_position p.chain k) (with_rows k cells (group_for p.chain k)) formed
    (group_position-within p.chain k formed.some) refl refl
    (IsGroup-with_rows _ k cells (group_for p.chain k) (own_group h i p k formed) all) one
with_cells-formed h i p k InNewBuffer cells formed is all one =
    coming_group-formed h i p (group_position p.coming k) (with_rows k cells (group_for p.coming k)) formed
    (group_position-within p.coming k (some_coming h i p k formed is)) refl refl
    (IsGroup-with_rows _ k cells (group_for p.coming k) (new_group h i p k formed is) all) one
