-- An index as it is opened is well-formed, has its rows, and has the pairs of its rows.
use Rattle.std.proofs.Common.{◌≡◌, ℕ, zero, suc, ◌+◌, ◌-◌, ◌<◌, ◌≤◌, List, [], ◌∷◌, length, map, refl, sym, ◌∙◌, subst, arith}
use Rattle.std.proofs.lemmas.List.Elements.{All-from_get_or}
use Rattle.std.proofs.lemmas.List.FromFn.{get_or-map-range_with_len, length-map-range_with_len}
use Rattle.std.proofs.lemmas.List.Sums.{sum_by-le}
use Rattle.std.specs.List.{range_with_len}
use Rattle.std.specs.Prelude.{slice_index_or, sum_by}
use Rattle.map_model.specs.Map.{Map}
use Rattle.rebuild_plan.specs.Keys.{group_keys, pivot_of}
use Rattle.rebuild_plan.specs.Plan.{group_count, lane_count}
use Rattle.word_layout.specs.Parts.{first_key_of}
use Rattle.word_layout.specs.Shape.{Shape, parts_in}
use Rattle.layout_model.specs.Cells.{keys_of}
use Rattle.layout_model.specs.Groups.{Group, Lane, group_at, group_for, group_position, no_group, no_lane, row_count, with_array}
use Rattle.layout_model.specs.Layout.{Part, no_part, part_at}
use Rattle.layout_model.specs.Opening.{opening, opening_cells, opening_chain, opening_part}
use Rattle.layout_model.specs.OpeningLaws.{CanOpen, OpeningsAreSound}
use Rattle.layout_model.specs.Phase.{Phase}
use Rattle.layout_model.specs.Phase as phase
use Rattle.layout_model.specs.Plans.{planned_group, planned_groups, records_for}
use Rattle.layout_model.specs.Records.{InArray, InBuffer, InNewBuffer, Spot, cells_for, if_opened}
use Rattle.layout_model.specs.RowLaws.{part_rows, rows_in}
use Rattle.layout_model.specs.WellFormed.{AreGroups, HasValueAt, HaveOneValue, IsComingKey, IsWellFormedPart}
use Rattle.layout_model.proofs.OpenedParts.{AreSlots-root, chain-first, chain-opened, chain-phases, chain-some}
use Rattle.layout_model.proofs.Planning.{planned_rows}

-- ---- buffers without rows ----

-- the group has no rows in any lane
abbrev HasNoRows : Group → Type 0
HasNoRows g = (i : ℕ) → (slice_index_or g.lanes i no_lane).rows ≡ []

planned-empty : (first : ℕ) (keys : List ℕ) (size j : ℕ) → HasNoRows (planned_group first keys size j)
planned-empty first keys size j i =
    planned_rows (pivot_of first keys size j) (group_keys keys size j)
    (range_with_len 0 (lane_count (length (group_keys keys size j)))) i

-- the groups in which the planned ones are filled
filled-empty : (fill : Group → Group) → ((g : Group) → (fill g).lanes ≡ g.lanes) → (first : ℕ)
    (keys : List ℕ) (size : ℕ) (js : List ℕ) (at : ℕ) →
    HasNoRows (group_at (map fill (map (planned_group first keys size) js)) at)
filled-empty fill same first keys size [] at i = refl
filled-empty fill same first keys size (j ∷ js) zero i =
    let P : List Lane → Type 0 = λ lanes. (slice_index_or lanes i no_lane).rows ≡ [] in
    subst P (sym (same (planned_group first keys size j))) (planned-empty first keys size j i)
filled-empty fill same first keys size (j ∷ js) (suc at) i = filled-empty fill same first keys size js at i

chain-empty : (h : Shape) (rows : Map) (i at : ℕ) → HasNoRows (group_at (opening_chain h rows i) at)
chain-empty h rows i at =
    let cells = opening_cells h rows i in
    let planned = planned_groups (first_key_of h.bounds i) (keys_of cells) h.limits.group_size in
    filled-empty (λ g. with_array (records_for planned cells g.pivot) g) (λ g. refl)
    (first_key_of h.bounds i) (keys_of cells) h.limits.group_size
    (range_with_len 0 (group_count (length (keys_of cells)) h.limits.group_size)) at

-- ---- values ----

-- nothing stands in the buffers of an opened part
buffer-empty : (h : Shape) (rows : Map) (i k : ℕ) → cells_for (opening_part h rows i) k InBuffer ≡ []
buffer-empty h rows i k = chain-empty h rows i (group_position (opening_chain h rows i) k) _

no_new : (is : Phase) → if_opened is [] ≡ []
no_new phase.Open = refl
no_new phase.Frozen = refl
no_new phase.Opened = refl

new-empty : (h : Shape) (rows : Map) (i k : ℕ) → cells_for (opening_part h rows i) k InNewBuffer ≡ []
new-empty h rows i k = no_new (group_for (opening_chain h rows i) k).phase

-- so a key has a value in the array alone
pub only_array : (h : Shape) (rows : Map) (i k : ℕ) (spot : Spot) →
    HasValueAt (opening_part h rows i) k spot → spot ≡ InArray
only_array h rows i k InArray has = refl
only_array h rows i k InBuffer has = let live = rw (buffer-empty h rows i k) at has.live in cc
only_array h rows i k InNewBuffer has = let live = rw (new-empty h rows i k) at has.live in cc

one_value : (h : Shape) (rows : Map) (i : ℕ) → HaveOneValue (opening_part h rows i)
one_value h rows i k one other has also =
    only_array h rows i k one has ∙ sym (only_array h rows i k other also)

-- ---- one part ----

no_groups : (Has : ℕ → Type 0) → AreGroups Has []
no_groups Has =
    record {
      rising = λ k within. absurd (omega (arith, within));
      each = λ i within. absurd (omega (arith, within));
    }

pub part-opened : (h : Shape) (rows : Map) (i : ℕ) → CanOpen h rows → i < parts_in h →
    IsWellFormedPart h i (opening_part h rows i)
part-opened h rows i can inside =
    let chain = opening_chain h rows i in
    let some = chain-some h rows i in
    let groups = chain-opened h rows i can inside in
    record {
      some = some;
      first = chain-first h rows i;
      chain = groups;
      span = refl;
      fits = omega arith;
      phases =
          let all : length chain - (0 + 0) ≡ length chain = omega arith in
          rw all (chain-phases h rows i);
      coming = no_groups (IsComingKey h i chain);
      coming_at = refl;
      coming_phases = refl;
      one_value = one_value h rows i;
      gone = refl;
      cursor = some;
      slots =
          AreSlots-root (first_key_of h.bounds i) h.limits.slots chain can.rules.least_slots some
          groups.rising (chain-first h rows i);
    }

-- ---- rows ----

lanes-none : (lanes : List Lane) → ((i : ℕ) → (slice_index_or lanes i no_lane).rows ≡ []) →
    sum_by (λ lane. length lane.rows) lanes ≡ 0
lanes-none lanes none =
    let most =
    sum_by-le (λ (lane : Lane). length lane.rows) 0 lanes
    (All-from_get_or (λ (lane : Lane). length lane.rows ≤ 0) lanes no_lane
    (λ i within. rw (none i) (omega arith))) in
    omega (arith, most)

groups-none : (groups : List Group) → ((at : ℕ) → HasNoRows (group_at groups at)) →
    rows_in groups ≡ 0
groups-none groups none =
    let most =
    sum_by-le row_count 0 groups
    (All-from_get_or (λ (g : Group). row_count g ≤ 0) groups no_group
    (λ at within. rw (lanes-none (group_at groups at).lanes (none at)) (omega arith))) in
    omega (arith, most)

part-none : (h : Shape) (rows : Map) (i : ℕ) → part_rows (opening_part h rows i) ≡ 0
part-none h rows i =
    let chain = groups-none (opening_chain h rows i) (chain-empty h rows i) in omega (arith, chain)

-- ---- the layout ----

pub part-at : (h : Shape) (rows : Map) (i : ℕ) → i < parts_in h →
    part_at (opening h rows) i ≡ opening_part h rows i
part-at h rows i inside =
    get_or-map-range_with_len (opening_part h rows) 0 (parts_in h) i i no_part inside (omega arith)

parts-length : (h : Shape) (rows : Map) → length (opening h rows).parts ≡ parts_in h
parts-length h rows = length-map-range_with_len (opening_part h rows) 0 (parts_in h)

parts-none : (h : Shape) (rows : Map) → sum_by part_rows (opening h rows).parts ≡ 0
parts-none h rows =
    let long = parts-length h rows in
    let most =
    sum_by-le part_rows 0 (opening h rows).parts
    (All-from_get_or (λ (p : Part). part_rows p ≤ 0) (opening h rows).parts no_part
    (λ i within. rw (part-at h rows i (omega arith), part-none h rows i) (omega arith))) in
    omega (arith, most)

pub openings_are_sound : OpeningsAreSound
openings_are_sound h rows can =
    record {
      formed =
          record {
            many = parts-length h rows;
            parts = λ i inside. rw (part-at h rows i inside) (part-opened h rows i can inside);
            awaited = λ i inside. rw (part-at h rows i inside) (λ c is. cc);
          };
      rows = let none = parts-none h rows in omega (arith, none);
      groups =
          λ i inside. rw (part-at h rows i inside) (let room = can.room i inside in omega (arith, room));
    }
