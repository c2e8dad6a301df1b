-- The groups that are planned for rising keys fit, and so they do once each has the records of its stretch.
use Rattle.std.proofs.Common.{◌≡◌, ℕ, zero, suc, ◌+◌, ◌<◌, ◌≤◌, Bool, true, List, [], ◌∷◌, length, map, get_or, take, drop, refl, sym, ◌∙◌, ap, subst, arith, inl, inr}
use Rattle.std.proofs.lemmas.Bool.{cases_Bool, eqb-true}
use Rattle.std.proofs.lemmas.List.{get_or-drop, get_or-map, get_or-take, length-drop, length-map, length-take}
use Rattle.std.proofs.lemmas.List.Elements.{All-cons, All-drop, All-from_get_or, All-get_or, All-head, All-nil, All-tail, All-take}
use Rattle.std.proofs.lemmas.List.FromFn.{get_or-map-range_with_len, length-map-range_with_len}
use Rattle.std.proofs.lemmas.List.Kept.{IsStrictlyIncreasing-filter}
use Rattle.std.proofs.lemmas.Simd.{map-map}
use Rattle.std.specs.List.{range_with_len}
use Rattle.std.specs.List.Sorted.{IsStrictlyIncreasing}
use Rattle.std.specs.Prelude.{All, filter, ◌==◌, slice_index, slice_index_or}
use Rattle.rebuild_plan.proofs.LaneLaws.{lane-first_below}
use Rattle.rebuild_plan.proofs.PlanLaws.{cuts_divide, cuts_lie, pivots_divide}
use Rattle.rebuild_plan.proofs.SharesLaws.{first_record-below}
use Rattle.rebuild_plan.specs.Keys.{RiseFrom, cut_of, group_keys, pivot_of, planned_share}
use Rattle.rebuild_plan.specs.Plan.{first_record, group_count, lane_count, lane_width}
use Rattle.layout_model.specs.Calls.{last_version}
use Rattle.layout_model.specs.Cells.{Cell, keys_of}
use Rattle.layout_model.specs.Groups.{Group, Lane, group_at, no_group, no_lane, pivots_of, with_array}
use Rattle.layout_model.specs.Plans.{filled, planned_group, planned_groups, planned_lanes, records_for}
use Rattle.layout_model.specs.Stretches.{begin_of, position_of}
use Rattle.layout_model.specs.WellFormed.{AreGroups, AreRecords, IsGroup, IsKeyAt, phases_of}
use Rattle.layout_model.proofs.GroupLists.{IsGroup-with_array}
use Rattle.layout_model.proofs.Positions.{position_of-within}
use Rattle.layout_model.proofs.Stretching.{position-by_begin, position_of-is}

-- ---- no records, and some of the records ----

pub AreRecords-nil : (Has : ℕ → Type 0) → AreRecords Has []
AreRecords-nil Has =
    record {
      rising = λ k within. absurd (omega (arith, within));
      own = All-nil (λ (c : Cell). Has c.key);
      versions = All-nil (λ (c : Cell). c.version ≤ last_version);
    }

-- what holds of those that pass a test, since they passed it
All-passed : (P Q : Cell → Type 0) (test : Cell → Bool) →
    ((c : Cell) → P c → test c ≡ true → Q c) → (cells : List Cell) → All P cells →
    All Q (filter test cells)
All-passed P Q test step [] all = All-nil Q
All-passed P Q test step (c ∷ cs) all =
    let rest = All-passed P Q test step cs (All-tail P c cs all) in
    elim (cases_Bool (test c)) [
      | inl passed ↦ rw passed (All-cons Q c (filter test cs) (step c (All-head P c cs all) passed) rest)
      | inr failed ↦ rw failed rest
    ]

keys_of-filter : (test : ℕ → Bool) (cells : List Cell) →
    keys_of (filter (λ c. test c.key) cells) ≡ filter test (keys_of cells)
keys_of-filter test [] = refl
keys_of-filter test (c ∷ cs) =
    let rest = keys_of-filter test cs in
    elim (cases_Bool (test c.key)) [
      | inl passed ↦ rw passed (ap (λ (keys : List ℕ). c.key ∷ keys) rest)
      | inr failed ↦ rw failed rest
    ]

pub AreRecords-filter : (P Q : ℕ → Type 0) (test : ℕ → Bool) →
    ((k : ℕ) → P k → test k ≡ true → Q k) → (cells : List Cell) → AreRecords P cells →
    AreRecords Q (filter (λ c. test c.key) cells)
AreRecords-filter P Q test step cells all =
    record {
      rising =
          rw (keys_of-filter test cells)
          (IsStrictlyIncreasing-filter test (keys_of cells) all.rising);
      own =
          All-passed (λ (c : Cell). P c.key) (λ (c : Cell). Q c.key) (λ (c : Cell). test c.key)
          (λ c has passed. step c.key has passed) cells all.own;
      versions =
          All-passed (λ (c : Cell). c.version ≤ last_version) (λ (c : Cell). c.version ≤ last_version)
          (λ (c : Cell). test c.key) (λ c less passed. less) cells all.versions;
    }

-- ---- the keys of a planned group ----

rising-drop : (n : ℕ) (xs : List ℕ) → IsStrictlyIncreasing xs → IsStrictlyIncreasing (drop n xs)
rising-drop n xs up k within =
    let long = length-drop n xs in
    let step = up (n + k) (omega arith) in
    rw (get_or-drop n xs k 0, get_or-drop n xs (k + 1) 0)
    (subst (λ (later : ℕ). get_or xs (n + k) 0 < get_or xs later 0) (omega arith) step)

rising-take : (n : ℕ) (xs : List ℕ) → IsStrictlyIncreasing xs → IsStrictlyIncreasing (take n xs)
rising-take n xs up k within =
    let long = length-take n xs in
    rw (get_or-take n xs k 0 (omega arith), get_or-take n xs (k + 1) 0 (omega arith)) (up k (omega arith))

-- the first of a group's own keys is that at which it begins, or for the first group not below it
own-first : (first : ℕ) (keys : List ℕ) (size j : ℕ) → RiseFrom first keys →
    0 < length (group_keys keys size j) →
    pivot_of first keys size j ≤ slice_index (group_keys keys size j) 0
own-first first keys size zero up some =
    let share = planned_share keys size in
    let long = length-take share (drop (first_record share 0) keys) in
    let dropped = length-drop (first_record share 0) keys in
    let bound = up.bounded (omega arith) in
    rw (get_or-take share (drop (first_record share 0) keys) 0 0 (omega arith), get_or-drop (first_record share 0) keys 0 0)
    (subst (λ (at : ℕ). first ≤ get_or keys at 0) (omega arith) bound)
own-first first keys size (suc j) up some =
    let share = planned_share keys size in
    let at = first_record share (suc j) in
    let long = length-take share (drop at keys) in
    rw (get_or-take share (drop at keys) 0 0 (omega arith), get_or-drop at keys 0 0)
    (let none : at + 0 ≡ at = omega arith in rw none (omega arith))

own-rises : (first : ℕ) (keys : List ℕ) (size j : ℕ) → RiseFrom first keys →
    RiseFrom (pivot_of first keys size j) (group_keys keys size j)
own-rises first keys size j up =
    let share = planned_share keys size in
    record {
      rising = rising-take share (drop (first_record share j) keys) (rising-drop (first_record share j) keys up.rising);
      bounded = own-first first keys size j up;
    }

-- ---- where planned groups and lanes begin ----

pivots-planned : (first : ℕ) (keys : List ℕ) (size : ℕ) →
    pivots_of (planned_groups first keys size)
    ≡ map (pivot_of first keys size) (range_with_len 0 (group_count (length keys) size))
pivots-planned first keys size =
    map-map (λ (g : Group). g.pivot) (planned_group first keys size)
    (range_with_len 0 (group_count (length keys) size))

pub pivot-at : (first : ℕ) (keys : List ℕ) (size j : ℕ) → j < group_count (length keys) size →
    get_or (pivots_of (planned_groups first keys size)) j 0 ≡ pivot_of first keys size j
pivot-at first keys size j among =
    rw (pivots-planned first keys size)
    (get_or-map-range_with_len (pivot_of first keys size) 0 (group_count (length keys) size) j j 0 among (omega arith))

pub pivots-length : (first : ℕ) (keys : List ℕ) (size : ℕ) →
    length (pivots_of (planned_groups first keys size)) ≡ group_count (length keys) size
pivots-length first keys size =
    rw (pivots-planned first keys size)
    (length-map-range_with_len (pivot_of first keys size) 0 (group_count (length keys) size))

pub length-planned : (first : ℕ) (keys : List ℕ) (size : ℕ) →
    length (planned_groups first keys size) ≡ group_count (length keys) size
length-planned first keys size =
    length-map-range_with_len (planned_group first keys size) 0 (group_count (length keys) size)

pub pivots-rise : (first : ℕ) (keys : List ℕ) (size : ℕ) → 8 ≤ size → RiseFrom first keys →
    IsStrictlyIncreasing (pivots_of (planned_groups first keys size))
pivots-rise first keys size big up k within =
    let long = pivots-length first keys size in
    rw (pivot-at first keys size k (omega arith), pivot-at first keys size (k + 1) (omega arith))
    ((pivots_divide first keys size big up).rise k (k + 1) (omega arith) (omega arith))

group-at : (first : ℕ) (keys : List ℕ) (size j : ℕ) → j < group_count (length keys) size →
    group_at (planned_groups first keys size) j ≡ planned_group first keys size j
group-at first keys size j among =
    get_or-map-range_with_len (planned_group first keys size) 0 (group_count (length keys) size) j j
    no_group among (omega arith)

-- the cuts of a planned group with these keys of its own
abbrev planned_cuts : ℕ → List ℕ → List ℕ
planned_cuts pivot own = map (λ lane. lane.cut) (planned_lanes pivot own)

cuts-planned : (pivot : ℕ) (own : List ℕ) →
    planned_cuts pivot own ≡ map (cut_of pivot own) (range_with_len 0 (lane_count (length own)))
cuts-planned pivot own =
    map-map (λ (lane : Lane). lane.cut) (λ lane. record { cut = cut_of pivot own lane; rows = [] })
    (range_with_len 0 (lane_count (length own)))

cut-at : (pivot : ℕ) (own : List ℕ) (i d : ℕ) → i < lane_count (length own) →
    get_or (planned_cuts pivot own) i d ≡ cut_of pivot own i
cut-at pivot own i d among =
    rw (cuts-planned pivot own)
    (get_or-map-range_with_len (cut_of pivot own) 0 (lane_count (length own)) i i d among (omega arith))

cuts-length : (pivot : ℕ) (own : List ℕ) →
    length (planned_cuts pivot own) ≡ lane_count (length own)
cuts-length pivot own =
    rw (cuts-planned pivot own)
    (length-map-range_with_len (cut_of pivot own) 0 (lane_count (length own)))

cuts-rise : (pivot : ℕ) (own : List ℕ) → RiseFrom pivot own →
    IsStrictlyIncreasing (planned_cuts pivot own)
cuts-rise pivot own up k within =
    let long = cuts-length pivot own in
    rw (cut-at pivot own k 0 (omega arith), cut-at pivot own (k + 1) 0 (omega arith))
    ((cuts_divide pivot own up).rise k (k + 1) (omega arith) (omega arith))

-- no lane of a planned group has rows
pub planned_rows : (pivot : ℕ) (own : List ℕ) (lanes : List ℕ) (i : ℕ) →
    (slice_index_or (map (λ lane. record { cut = cut_of pivot own lane; rows = [] }) lanes) i no_lane).rows ≡ []
planned_rows pivot own [] i = refl
planned_rows pivot own (lane ∷ lanes) zero = refl
planned_rows pivot own (lane ∷ lanes) (suc i) = planned_rows pivot own lanes i

-- ---- the planned groups ----

-- each of them begins at such a key
pivot-has : (Has : ℕ → Type 0) (first : ℕ) (keys : List ℕ) (size j : ℕ) → 8 ≤ size → Has first →
    All Has keys → j < group_count (length keys) size → Has (pivot_of first keys size j)
pivot-has Has first keys size zero big from all among = from
pivot-has Has first keys size (suc j) big from all among =
    All-get_or Has keys (first_record (planned_share keys size) (suc j)) 0
    (first_record-below (length keys) size (suc j) big (omega arith) among) all

-- each of its lanes begins at such a key
cut-has : (Has : ℕ → Type 0) (pivot : ℕ) (own : List ℕ) (i : ℕ) → Has pivot → All Has own →
    i < lane_count (length own) → Has (cut_of pivot own i)
cut-has Has pivot own zero from all among = from
cut-has Has pivot own (suc i) from all among =
    All-get_or Has own (first_record (lane_width (length own)) (suc i)) 0
    (lane-first_below (length own) (suc i) (omega arith) among) all

-- no lane begins before its group
cut-from : (pivot : ℕ) (own : List ℕ) (i : ℕ) → RiseFrom pivot own → i < lane_count (length own) →
    pivot ≤ cut_of pivot own i
cut-from pivot own zero up among = omega arith
cut-from pivot own (suc i) up among =
    let above = (cuts_divide pivot own up).rise 0 (suc i) (omega arith) among in omega (arith, above)

-- each lane begins where its group has the key
cut-in_group : (first : ℕ) (keys : List ℕ) (size j i : ℕ) → 8 ≤ size → RiseFrom first keys →
    j < group_count (length keys) size → i < lane_count (length (group_keys keys size j)) →
    position_of (pivots_of (planned_groups first keys size))
    (cut_of (pivot_of first keys size j) (group_keys keys size j) i) ≡ j
cut-in_group first keys size j i big up among lane =
    let pivots = pivots_of (planned_groups first keys size) in
    let own = group_keys keys size j in
    let cut = cut_of (pivot_of first keys size j) own i in
    let long = pivots-length first keys size in
    let here = pivot-at first keys size j among in
    let from = cut-from (pivot_of first keys size j) own i (own-rises first keys size j up) lane in
    position_of-is pivots cut j (pivots-rise first keys size big up) (omega arith) (omega (arith, here, from))
    (λ next.
    let later : j + 1 ≡ suc j = omega arith in
    let behind = pivot-at first keys size (suc j) (omega arith) in
    let below = cuts_lie first keys size j i big up (omega arith) lane in
    rw behind (rw later at below))

planned-group : (Has : ℕ → Type 0) (first : ℕ) (keys : List ℕ) (size j : ℕ) → 8 ≤ size →
    RiseFrom first keys → Has first → All Has keys → j < group_count (length keys) size →
    IsGroup (IsKeyAt Has (pivots_of (planned_groups first keys size)) j) (planned_group first keys size j)
planned-group Has first keys size j big up from all among =
    let pivot = pivot_of first keys size j in
    let own = group_keys keys size j in
    let share = planned_share keys size in
    let long = cuts-length pivot own in
    let owns : All Has own =
    All-take Has share (drop (first_record share j) keys) (All-drop Has (first_record share j) keys all) in
    let begins = pivot-has Has first keys size j big from all among in
    let At : ℕ → Type 0 = IsKeyAt Has (pivots_of (planned_groups first keys size)) j in
    record {
      array = AreRecords-nil At;
      some =
          let lanes : length (planned_lanes pivot own) ≡ lane_count (length own) =
          length-map-range_with_len {X = Lane} (λ lane. record { cut = cut_of pivot own lane; rows = [] })
          0 (lane_count (length own)) in
          omega (arith, lanes);
      first = cut-at pivot own 0 0 (omega arith);
      rising = cuts-rise pivot own (own-rises first keys size j up);
      cuts =
          All-from_get_or At (planned_cuts pivot own) 0
          (λ i within.
          let lane : i < lane_count (length own) = omega arith in
          rw (cut-at pivot own i 0 lane)
          (record {
            has = cut-has Has pivot own i begins owns lane;
            at = cut-in_group first keys size j i big up among lane;
          }));
      lanes =
          λ i within.
          let P : List Cell → Type 0 = AreRecords (IsKeyAt At (planned_cuts pivot own) i) in
          subst P (sym (planned_rows pivot own (range_with_len 0 (lane_count (length own))) i))
          (AreRecords-nil (IsKeyAt At (planned_cuts pivot own) i));
    }

-- the planned groups are neighbours of such keys
pub AreGroups-planned : (Has : ℕ → Type 0) (first : ℕ) (keys : List ℕ) (size : ℕ) → 8 ≤ size →
    RiseFrom first keys → Has first → All Has keys → AreGroups Has (planned_groups first keys size)
AreGroups-planned Has first keys size big up from all =
    record {
      rising = pivots-rise first keys size big up;
      each =
          λ j within.
          let among : j < group_count (length keys) size = rw (length-planned first keys size) at within in
          rw (group-at first keys size j among)
          (planned-group Has first keys size j big up from all among);
    }

-- ---- filled groups ----

pub pivots_of-filled : (cells : List Cell) (groups : List Group) →
    pivots_of (filled cells groups) ≡ pivots_of groups
pivots_of-filled cells groups =
    map-map (λ (g : Group). g.pivot) (λ g. with_array (records_for groups cells g.pivot) g) groups

pub phases_of-filled : (cells : List Cell) (groups : List Group) →
    phases_of (filled cells groups) ≡ phases_of groups
phases_of-filled cells groups =
    map-map (λ (g : Group). g.phase) (λ g. with_array (records_for groups cells g.pivot) g) groups

-- records of the stretch of the group at a position
records_for-fit : (Has : ℕ → Type 0) (groups : List Group) (cells : List Cell) (j : ℕ) →
    IsStrictlyIncreasing (pivots_of groups) → j < length groups → AreRecords Has cells →
    AreRecords (IsKeyAt Has (pivots_of groups) j)
    (records_for groups cells (group_at groups j).pivot)
records_for-fit Has groups cells j up within all =
    let pivots = pivots_of groups in
    let begin = (group_at groups j).pivot in
    let long = length-map groups (λ (g : Group). g.pivot) in
    let here : get_or pivots j 0 ≡ begin = get_or-map (λ (g : Group). g.pivot) groups j no_group 0 within in
    AreRecords-filter Has (IsKeyAt Has pivots j) (λ k. begin_of pivots k == begin)
    (λ k has passed. record {
      has = has;
      at =
          position-by_begin pivots k j up (position_of-within pivots k (omega arith)) (omega arith)
          (eqb-true (begin_of pivots k) begin passed ∙ sym here);
    }) cells all

-- neighbours are filled with records of such keys
pub AreGroups-filled : (Has : ℕ → Type 0) (groups : List Group) (cells : List Cell) →
    AreGroups Has groups → AreRecords Has cells → AreGroups Has (filled cells groups)
AreGroups-filled Has groups cells are all =
    let fill : Group → Group = λ g. with_array (records_for groups cells g.pivot) g in
    let same = pivots_of-filled cells groups in
    record {
      rising = rw same are.rising;
      each =
          λ j inside.
          let within : j < length groups = rw (length-map groups fill) at inside in
          let P : List ℕ → Type 0 = λ pivots. IsGroup (IsKeyAt Has pivots j) (group_at (filled cells groups) j) in
          subst P (sym same)
          (rw (get_or-map fill groups j no_group no_group within)
          (IsGroup-with_array (IsKeyAt Has (pivots_of groups) j)
          (records_for groups cells (group_at groups j).pivot) (group_at groups j) (are.each j within)
          (records_for-fit Has groups cells j are.rising within all)));
    }
