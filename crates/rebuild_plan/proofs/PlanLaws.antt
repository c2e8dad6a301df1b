-- What follows of the plan's pivots, cuts and slots over rising keys.
use Rattle.std.proofs.Common.{ℕ, zero, suc, ◌≡◌, ◌+◌, ◌-◌, ◌<◌, ◌≤◌, List, length, get_or, take, drop, arith, refl, ap, ◌∙◌, length-take, length-drop}
use Rattle.std.specs.List.Sorted.{IsStrictlyIncreasing}
use Rattle.std.proofs.lemmas.List.FromFn.{length-map-range_with_len, get_or-map-range_with_len}
use Rattle.std.proofs.lemmas.List.{get_or-take, get_or-drop}
use Rattle.rebuild_plan.specs.Plan.{first_record, record_count, group_count, lane_count, lane_width, step_of, slot_count, slot_group, IsGivenTo}
use Rattle.rebuild_plan.specs.Keys.{RiseFrom, pivot_of, cut_of, slot_pivot, group_keys, planned_share}
use Rattle.rebuild_plan.specs.Keys.{later_pivots, planned_pivots, PivotsAreListed}
use Rattle.rebuild_plan.specs.Keys.{PivotsDivideTheKeys, CutsDivideTheKeys, CutsLieInTheirGroup, SlotsDivideThePivots}
use Rattle.rebuild_plan.proofs.Rounding.{div_ceil-pos, below_div_ceil}
use Rattle.rebuild_plan.proofs.SharesLaws.{first_record-below}
use Rattle.rebuild_plan.proofs.LaneLaws.{lane-first_below}
use Rattle.rebuild_plan.proofs.KeyLaws.{divides_keys}

pub pivots_divide : PivotsDivideTheKeys
pivots_divide first_pivot keys group_size big rise =
    divides_keys (pivot_of first_pivot keys group_size) keys (group_count (length keys) group_size)
    (planned_share keys group_size) record {
      rise = rise;
      some = λ any. div_ceil-pos (length keys) (group_count (length keys) group_size) any (omega arith);
      key = λ before. refl;
      within = λ group later among. first_record-below (length keys) group_size group big later among;
    }

-- ---- the list of all pivots ----

pub pivots-length : (first_pivot : ℕ) (keys : List ℕ) (group_size : ℕ) →
    length (planned_pivots first_pivot keys group_size) ≡ group_count (length keys) group_size
pivots-length first_pivot keys group_size =
    let share : ℕ = planned_share keys group_size in
    let groups : ℕ = group_count (length keys) group_size in
    let long : length (later_pivots keys group_size) ≡ groups - 1 =
    length-map-range_with_len (λ (group : ℕ). get_or keys (first_record share group) 0) 1 (groups - 1)
    in
    omega arith

pub pivots-at : (first_pivot : ℕ) (keys : List ℕ) (group_size group : ℕ) →
    group < group_count (length keys) group_size →
    get_or (planned_pivots first_pivot keys group_size) group 0 ≡ pivot_of first_pivot keys group_size group
pivots-at first_pivot keys group_size zero among = refl
pivots-at first_pivot keys group_size (suc before) among =
    let share : ℕ = planned_share keys group_size in
    let groups : ℕ = group_count (length keys) group_size in
    get_or-map-range_with_len (λ (group : ℕ). get_or keys (first_record share group) 0) 1 (groups - 1)
    before (suc before) 0 (omega arith) (omega arith)

pub pivots_rise : (first_pivot : ℕ) (keys : List ℕ) (group_size : ℕ) → 8 ≤ group_size →
    RiseFrom first_pivot keys → IsStrictlyIncreasing (planned_pivots first_pivot keys group_size)
pivots_rise first_pivot keys group_size big rise group next =
    let long = pivots-length first_pivot keys group_size in
    let up = (pivots_divide first_pivot keys group_size big rise).rise group (group + 1) (omega arith)
    (omega arith) in
    let here = pivots-at first_pivot keys group_size group (omega arith) in
    let behind = pivots-at first_pivot keys group_size (group + 1) (omega arith) in
    omega (arith, up, here, behind)

pub pivots_listed : PivotsAreListed
pivots_listed first_pivot keys group_size big rise =
    let long = pivots-length first_pivot keys group_size in (
      long,
      λ group among. pivots-at first_pivot keys group_size group (omega arith),
      pivots_rise first_pivot keys group_size big rise,
    )

pub cuts_divide : CutsDivideTheKeys
cuts_divide pivot keys rise =
    divides_keys (cut_of pivot keys) keys (lane_count (length keys)) (lane_width (length keys)) record {
      rise = rise;
      some = λ any. omega arith;
      key = λ before. refl;
      within = λ lane later among. lane-first_below (length keys) lane later among;
    }

-- ---- a group's own keys ----

-- they are as many as the records that it is given
own-length : (keys : List ℕ) (share group : ℕ) →
    length (take share (drop (first_record share group) keys)) ≡ record_count (length keys) share group
own-length keys share group =
    let taken = length-take share (drop (first_record share group) keys) in
    let dropped = length-drop (first_record share group) keys in
    omega (arith, taken, dropped)

-- each stands among all keys as far after the group's first record
own-key : (keys : List ℕ) (share group number : ℕ) → number < share →
    get_or (take share (drop (first_record share group) keys)) number 0 ≡
    get_or keys (first_record share group + number) 0
own-key keys share group number within =
    get_or-take share (drop (first_record share group) keys) number 0 within
    ∙ get_or-drop (first_record share group) keys number 0

-- and is given to the group
own-given : (keys : List ℕ) (share group number : ℕ) →
    number < length (take share (drop (first_record share group) keys)) →
    (number < share)
    × IsGivenTo (length keys) share (first_record share group + number) group
own-given keys share group number within =
    let inside : number < record_count (length keys) share group =
    rw (own-length keys share group) at within in
    (omega arith, record { begins = omega arith; ends = omega arith })

pub cuts_lie : CutsLieInTheirGroup
cuts_lie first_pivot keys group_size group zero big rise next among =
    (pivots_divide first_pivot keys group_size big rise).rise group (group + 1) (omega arith) next
cuts_lie first_pivot keys group_size group (suc before) big rise next among =
    let share = planned_share keys group_size in
    let own = group_keys keys group_size group in
    let number = first_record (lane_width (length own)) (suc before) in
    let inside : number < length own = lane-first_below (length own) (suc before) (omega arith) among in
    let given = own-given keys share group number inside in
    rw (own-key keys share group number given.0)
    ((pivots_divide first_pivot keys group_size big rise).below (first_record share group + number)
    group (group + 1) given.1 (omega arith) next)

-- ---- slots ----

-- the first slot names the first group
slot_pivot-first : (pivots : List ℕ) (slots : ℕ) → slot_pivot pivots slots 0 ≡ get_or pivots 0 0
slot_pivot-first pivots slots =
    let first : slot_group (step_of (length pivots) slots) 0 ≡ 0 = omega arith in
    ap (λ number. get_or pivots number 0) first

pub slots_divide : SlotsDivideThePivots
slots_divide pivots slots any some rising =
    let step = step_of (length pivots) slots in
    let positive : 0 < step = div_ceil-pos (length pivots) slots any some in
    divides_keys (slot_pivot pivots slots) pivots (slot_count (length pivots) step) step record {
      rise = record { rising = rising; bounded = λ _. omega (arith, slot_pivot-first pivots slots) };
      some = λ _. positive;
      key = λ before. refl;
      within = λ slot later among. below_div_ceil (length pivots) step slot positive among;
    }
