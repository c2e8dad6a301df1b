-- Where groups, lanes and slots begin, over the keys of the counted records in rising order.
use Rattle.std.specs.Prelude.{◌≡◌, ℕ, zero, suc, ◌+◌, ◌-◌, ◌<◌, ◌≤◌, List, [], ◌∷◌, length, slice_index, take, drop, map}
use Rattle.std.specs.List.{range_with_len}
use Rattle.std.specs.List.Sorted.{IsStrictlyIncreasing}
use Rattle.rebuild_plan.specs.Plan.{group_count, share_of, first_record, record_count, IsGivenTo, lane_width, lane_count, step_of, slot_count, slot_group}

-- ---- pivots ----

-- how many records each of the planned groups is given
abbrev pub planned_share : (keys : List ℕ) (group_size : ℕ) → ℕ
planned_share keys group_size = share_of (length keys) (group_count (length keys) group_size)

-- the pivot of a new group: first that of the first old group, or at the opening the least key of the part; then the key
-- of each group's first record
abbrev pub pivot_of : (first_pivot : ℕ) (keys : List ℕ) (group_size group : ℕ) → ℕ
pivot_of first_pivot keys group_size zero = first_pivot
pivot_of first_pivot keys group_size (suc before) =
    slice_index keys (first_record (planned_share keys group_size) (suc before))

-- the pivots of the new groups behind the first, in their order
abbrev pub later_pivots : (keys : List ℕ) (group_size : ℕ) → List ℕ
later_pivots keys group_size =
    map (λ group. slice_index keys (first_record (planned_share keys group_size) group))
    (range_with_len 1 (group_count (length keys) group_size - 1))

-- the pivots of all new groups, in their order
abbrev pub planned_pivots : (first_pivot : ℕ) (keys : List ℕ) (group_size : ℕ) → List ℕ
planned_pivots first_pivot keys group_size = first_pivot ∷ later_pivots keys group_size

-- the keys of the records that a new group is given
abbrev pub group_keys : (keys : List ℕ) (group_size group : ℕ) → List ℕ
group_keys keys group_size group =
    let share = planned_share keys group_size in
    take share (drop (first_record share group) keys)

-- ---- cuts ----

-- the cut of a lane of a group with these keys: the group's pivot, and then the key of each lane's first record
abbrev pub cut_of : (pivot : ℕ) (keys : List ℕ) (lane : ℕ) → ℕ
cut_of pivot keys zero = pivot
cut_of pivot keys (suc before) =
    slice_index keys (first_record (lane_width (length keys)) (suc before))

-- ---- slots ----

-- the pivot of a slot of a root with room for so many slots: that of the group that the slot names
abbrev pub slot_pivot : (pivots : List ℕ) (slots slot : ℕ) → ℕ
slot_pivot pivots slots slot =
    slice_index pivots (slot_group (step_of (length pivots) slots) slot)

-- ---- what holds of them ----

-- the keys rise, and none is below this one
pub record RiseFrom (least : ℕ) (keys : List ℕ) : Type 0 where
  pub rising : IsStrictlyIncreasing keys
  pub bounded : 0 < length keys → least ≤ slice_index keys 0

-- the parts begin at rising keys, and each key lies from where its part begins to before where a later one does
pub record DividesKeys (begins : ℕ → ℕ) (keys : List ℕ) (parts size : ℕ) : Type 0 where
  pub rise : (part later : ℕ) → part < later → later < parts → begins part < begins later
  pub from : (number part : ℕ) → IsGivenTo (length keys) size number part →
      begins part ≤ slice_index keys number
  pub below : (number part later : ℕ) → IsGivenTo (length keys) size number part →
      part < later → later < parts → slice_index keys number < begins later

-- the pivots of the planned groups divide the keys
abbrev pub PivotsDivideTheKeys : Type 0
PivotsDivideTheKeys = (first_pivot : ℕ) (keys : List ℕ) (group_size : ℕ) → 8 ≤ group_size →
    RiseFrom first_pivot keys →
    DividesKeys (pivot_of first_pivot keys group_size) keys (group_count (length keys) group_size)
    (planned_share keys group_size)

-- the cuts of a group divide its keys
abbrev pub CutsDivideTheKeys : Type 0
CutsDivideTheKeys = (pivot : ℕ) (keys : List ℕ) → RiseFrom pivot keys →
    DividesKeys (cut_of pivot keys) keys (lane_count (length keys)) (lane_width (length keys))

-- each planned group has its pivot in the list of them, which rises
abbrev pub PivotsAreListed : Type 0
PivotsAreListed = (first_pivot : ℕ) (keys : List ℕ) (group_size : ℕ) → 8 ≤ group_size →
    RiseFrom first_pivot keys →
    let listed = planned_pivots first_pivot keys group_size in
    (length listed ≡ group_count (length keys) group_size)
    × ((group : ℕ) → group < length listed →
    slice_index listed group ≡ pivot_of first_pivot keys group_size group)
    × IsStrictlyIncreasing listed

-- the planned groups have as many keys as records, which rise from their pivots
abbrev pub GroupsHaveTheirKeys : Type 0
GroupsHaveTheirKeys = (first_pivot : ℕ) (keys : List ℕ) (group_size group : ℕ) → 8 ≤ group_size →
    RiseFrom first_pivot keys → group < group_count (length keys) group_size →
    (length (group_keys keys group_size group) ≡
    record_count (length keys) (planned_share keys group_size) group)
    × RiseFrom (pivot_of first_pivot keys group_size group) (group_keys keys group_size group)

-- the cuts of a planned group are below the pivot of the next
abbrev pub CutsLieInTheirGroup : Type 0
CutsLieInTheirGroup = (first_pivot : ℕ) (keys : List ℕ) (group_size group lane : ℕ) →
    8 ≤ group_size → RiseFrom first_pivot keys →
    group + 1 < group_count (length keys) group_size →
    let own = group_keys keys group_size group in
    lane < lane_count (length own) →
    cut_of (pivot_of first_pivot keys group_size group) own lane <
    pivot_of first_pivot keys group_size (group + 1)

-- the slots of a root divide the pivots of its groups
abbrev pub SlotsDivideThePivots : Type 0
SlotsDivideThePivots = (pivots : List ℕ) (slots : ℕ) → 1 ≤ length pivots → 1 ≤ slots →
    IsStrictlyIncreasing pivots →
    let step = step_of (length pivots) slots in
    DividesKeys (slot_pivot pivots slots) pivots (slot_count (length pivots) step) step

-- ---- worked rows ----

abbrev pub six_keys : List ℕ
six_keys = 10 ∷ 20 ∷ 30 ∷ 40 ∷ 50 ∷ 60 ∷ []

abbrev pub thirteen_keys : List ℕ
thirteen_keys =
    10 ∷ 20 ∷ 30 ∷ 40 ∷ 50 ∷ 60 ∷ 70 ∷ 80 ∷ 90 ∷ 100 ∷ 110 ∷ 120 ∷ 130 ∷ []
