-- The lanes of the groups that are in the chain as the table is opened: the plan cuts them for the opening's rows.
use Rattle.std.proofs.Common.{◌≡◌, ℕ, ◌+◌, ◌<◌, ◌≤◌, Bool, true, false, [], cond, length, ap, sym, subst, refl, ◌∙◌}
use Rattle.std.proofs.Common.{arith, lt-ltb, zero, suc, List}
use Rattle.index_machine.specs.Lanes.{cut, lanes}
use Rattle.index_machine.specs.OpeningRows.{is_in_opening_chain, opening_keys, opening_pivot}
use Rattle.index_machine.specs.Openings.{opening_group}
use Rattle.index_machine.proofs.OpeningGroups.{opening_keys-rise, opening_pivot-group}
use Rattle.index_machine.proofs.OpeningPlan.{opening_keys-group}
use Rattle.word_layout.specs.Parts.{greatest_key}
use Rattle.index_machine.specs.Words.{opening_cut}
use Rattle.index_machine.specs.declared.opening.Opening.{Opening}
use Rattle.machine_buffers.specs.Walks.{AreRisingLanes}
use Rattle.rebuild_plan.proofs.LaneLaws.{lane_count-most, lane-first_below}
use Rattle.rebuild_plan.proofs.PlanLaws.{cuts_divide}
use Rattle.rebuild_plan.specs.Keys.{RiseFrom, cut_of}
use Rattle.rebuild_plan.specs.Plan.{first_record, lane_count, lane_width}
use Rattle.word_layout.specs.Headers.{most_lanes}

pub opening_cut-is : (pivot : ℕ) (keys : List ℕ) (lane : ℕ) → lane < lane_count (length keys) →
    opening_cut pivot keys lane ≡ cut_of pivot keys lane
opening_cut-is pivot keys lane lt =
    ap (λ (y : Bool). cond y (cut_of pivot keys lane) 0) (lt-ltb lane (lane_count (length keys)) lt)

few : (w : Bool) (records : ℕ) → cond w (lane_count records) 0 ≤ most_lanes
few true records = lane_count-most records
few false records = omega arith

rising : (w : Bool) (pivot : ℕ) (keys : List ℕ) (i : ℕ) → RiseFrom pivot keys →
    i + 1 < cond w (lane_count (length keys)) 0 →
    cond w (opening_cut pivot keys i) 0 < cond w (opening_cut pivot keys (i + 1)) 0
rising true pivot keys i rise lt =
    let up = (cuts_divide pivot keys rise).rise i (i + 1) (omega arith) lt in
    let here = opening_cut-is pivot keys i (omega arith) in
    let next = opening_cut-is pivot keys (i + 1) lt in
    omega arith
rising false pivot keys i rise lt = absurd (omega (arith, lt))

-- their cuts rise, and they are few
pub opened_rising : (o : Opening) (group : ℕ) → AreRisingLanes o group []
opened_rising o group = record {
  few = few (is_in_opening_chain o group) (length (opening_keys o group));
  rising = λ i lt. rising (is_in_opening_chain o group) (opening_pivot o group)
      (opening_keys o group) i (opening_keys-rise o group) lt;
}

-- ---- cuts are keys ----

-- a cut of a group of the chain is one of its keys
cut_of_group : (o : Opening) (group lane : ℕ) → is_in_opening_chain o group ≡ true →
    lane < lane_count (length (opening_keys o group)) →
    (cut_of (opening_pivot o group) (opening_keys o group) lane ≤ greatest_key)
    × (opening_group o (cut_of (opening_pivot o group) (opening_keys o group) lane) ≡ group)
cut_of_group o group zero chained lt = opening_pivot-group o group chained
cut_of_group o group (suc before) chained lt =
    let keys : List ℕ = opening_keys o group in
    let i : ℕ = first_record (lane_width (length keys)) (suc before) in
    let below : i < length keys = lane-first_below (length keys) (suc before) (omega arith) lt in
    let is = opening_keys-group o group i below in
    (is.1, is.0)

-- a lane that is there is one of a group of the chain
pub opened_lane-chain : (o : Opening) (group lane : ℕ) → lane < lanes o group [] →
    (is_in_opening_chain o group ≡ true) × (lane < lane_count (length (opening_keys o group)))
opened_lane-chain o group lane lt = go (is_in_opening_chain o group) refl lt
  where
    go : (w : Bool) → is_in_opening_chain o group ≡ w →
        lane < cond w (lane_count (length (opening_keys o group))) 0 →
        (is_in_opening_chain o group ≡ true) × (lane < lane_count (length (opening_keys o group)))
    go true chained lt = (chained, lt)
    go false out lt = absurd (omega arith)

-- the cut of a group of the chain is the plan's
pub opened_cut-is : (o : Opening) (group lane : ℕ) → is_in_opening_chain o group ≡ true →
    lane < lane_count (length (opening_keys o group)) →
    cut o group lane [] ≡ cut_of (opening_pivot o group) (opening_keys o group) lane
opened_cut-is o group lane chained lt =
    ap (λ (w : Bool). cond w (opening_cut (opening_pivot o group) (opening_keys o group) lane) 0) chained
    ∙ opening_cut-is (opening_pivot o group) (opening_keys o group) lane lt

-- and each is a key of its group
pub opened_cut-key : (o : Opening) (group lane : ℕ) → lane < lanes o group [] →
    (cut o group lane [] ≤ greatest_key) × (opening_group o (cut o group lane []) ≡ group)
opened_cut-key o group lane lt =
    let is = opened_lane-chain o group lane lt in
    let key = cut_of_group o group lane is.0 is.1 in
    let same = opened_cut-is o group lane is.0 is.1 in (
      subst (λ (k : ℕ). k ≤ greatest_key) (sym same) key.0,
      ap (opening_group o) same ∙ key.1,
    )
