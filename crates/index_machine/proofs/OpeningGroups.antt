-- The groups that are in the chain at the opening: their keys, their pivots, and how they lead on.
use Rattle.std.proofs.Common.{◌≡◌, ◌≢◌, ℕ, zero, suc, ◌+◌, ◌<◌, ◌≤◌, ⊎_elim, Bool, true, false, cond}
use Rattle.std.proofs.Common.{length, refl, sym, ap, ◌∙◌, subst, arith, lt-ltb, le-ltb, eq-eqb}
use Rattle.std.specs.Prelude.{◌&&◌, nat_lt, slice_index}
use Rattle.std.proofs.lemmas.Bool.{cases_lt}
use Rattle.rebuild_plan.specs.Keys.{RiseFrom, group_keys, slot_pivot}
use Rattle.rebuild_plan.specs.Plan.{first_record, slot_group}
use Rattle.rebuild_plan.proofs.KeyLaws.{key-rises}
use Rattle.rebuild_plan.proofs.PlanLaws.{pivots-at, slots_divide}
use Rattle.rebuild_plan.proofs.SharesLaws.{first_record-below}
use Rattle.rebuild_plan.proofs.RootLaws.{slot_count-le_slots, slots_reach}
use Rattle.rebuild_plan.proofs.Rounding.{div_ceil-pos}
use Rattle.word_layout.specs.Parts.{greatest_key, part_with}
use Rattle.word_layout.specs.Shape.{first_group_of, group_total}
use Rattle.word_layout.proofs.KeySpace.{first_key-within, has_a_key}
use Rattle.word_layout.proofs.PartGroups.{group-part, part_with-has, part_with-key, part_with-monotone}
use Rattle.word_layout.proofs.PartGroups.{last_key-greatest}
use Rattle.index_machine.specs.declared.opening.Opening.{Opening}
use Rattle.index_machine.specs.Words.{limits, shape}
use Rattle.index_machine.specs.OpeningRows.{has_behind, is_in_opening_chain, number_in_part, opening_count}
use Rattle.index_machine.specs.OpeningRows.{opening_keys, opening_next, opening_pivot, opening_pivots}
use Rattle.index_machine.specs.OpeningRoots.{is_opening_slot, opening_slot, opening_slot_pivot, opening_slots}
use Rattle.index_machine.specs.OpeningRoots.{opening_step}
use Rattle.index_machine.specs.Openings.{opening_group}
use Rattle.index_machine.specs.Keepers.{IsPart, part_of, IsKeyIn, first_key, last_key}
use Rattle.index_machine.proofs.OpeningPlan.{IsOpened, count_few, count_is, group_is_row, in_chain, in_chain_is}
use Rattle.index_machine.proofs.OpeningPlan.{keys, keys_part, keys_small, later, later_count, least}
use Rattle.index_machine.proofs.OpeningPlan.{number_alone, number_among, number_lies, number_of}
use Rattle.index_machine.proofs.OpeningPlan.{opening_group-number, opening_group-opened, opening_group-part}
use Rattle.index_machine.proofs.OpeningPlan.{opening_keys-group, pivots_up, row-number, row-part, row_of}
use Rattle.index_machine.proofs.OpeningPlan.{row_opened, row_keys, big_group, group_numbered, share, size}
use Rattle.index_machine.proofs.OpeningKeys.{keys_rise}

-- ---- which groups are in the chain ----

pub opening_group-chain : (o : Opening) (k : ℕ) → k ≤ greatest_key →
    is_in_opening_chain o (opening_group o k) ≡ true
opening_group-chain o k small = in_chain o (opening_group o k) (opening_group-opened o k small)

-- the first group row of a part is
pub first_opened : (o : Opening) (part : ℕ) → IsPart o part → IsOpened o (first_group_of (shape o) part)
first_opened o part is_part =
    let same : row_of o part 0 ≡ first_group_of (shape o) part = omega arith in
    subst (IsOpened o) same (row_opened o part 0 is_part (omega (arith, later_count o part)))

pub first_in_chain : (o : Opening) (part : ℕ) → IsPart o part →
    is_in_opening_chain o (first_group_of (shape o) part) ≡ true
first_in_chain o part is_part = in_chain o (first_group_of (shape o) part) (first_opened o part is_part)

-- ---- pivots ----

-- the pivot of a part's group is that with its number
pub row-pivot : (o : Opening) (part number : ℕ) → number < (limits o).groups →
    opening_pivot o (row_of o part number) ≡ slice_index (opening_pivots o part) number
row-pivot o part number few =
    λ j. slice_index (opening_pivots o (row-part o part number few j)) (row-number o part number few j)

-- the pivots are keys of their part
pub pivot_key : (o : Opening) (part number : ℕ) → IsPart o part → number < opening_count o part →
    (slice_index (opening_pivots o part) number ≤ greatest_key)
    × (part_with (shape o).bounds (slice_index (opening_pivots o part) number) ≡ part)
pivot_key o part zero is_part among =
    let small = first_key-within (shape o).bounds part o.layout.cut is_part in
    let most = has_a_key (shape o).bounds part o.layout.cut is_part in (
      small,
      part_with-key (shape o).bounds part (first_key o part) o.layout.cut is_part
          (record { from = omega arith; to = most }),
    )
pivot_key o part (suc before) is_part among =
    let n : ℕ = first_record (share o part) (suc before) in
    let inside : n < length (keys o part) =
    first_record-below (length (keys o part)) (size o part) (suc before) (big_group o) (omega arith) among in
    subst (λ (k : ℕ). (k ≤ greatest_key) × (part_with (shape o).bounds k ≡ part))
    (sym (pivots-at (least o part) (keys o part) (size o part) (suc before) among))
    (keys_small o part n inside, keys_part o part n inside)

-- a later one is greater
pub pivots_above : (o : Opening) (part number later : ℕ) → number < later → later < opening_count o part →
    slice_index (opening_pivots o part) number < slice_index (opening_pivots o part) later
pivots_above o part number later before among =
    key-rises (opening_pivots o part) number later (pivots_up o part) before (omega (arith, among, count_is o part))

-- the number of a pivot is that of its group
pub pivot_number : (o : Opening) (part number : ℕ) → number < opening_count o part →
    number_of o part (slice_index (opening_pivots o part) number) ≡ number
pivot_number o part number among =
    sym (number_alone o part number (slice_index (opening_pivots o part) number) among (record {
      from = omega arith;
      before = λ more. pivots_above o part number (suc number) (omega arith) (omega (arith, more, later_count o part));
    }))

pub pivot_group : (o : Opening) (part number : ℕ) → IsPart o part → number < opening_count o part →
    opening_group o (slice_index (opening_pivots o part) number) ≡ row_of o part number
pivot_group o part number is_part among =
    let key = pivot_key o part number is_part among in
    group_numbered o part (slice_index (opening_pivots o part) number) key.0 key.1
    ∙ ap (row_of o part) (pivot_number o part number among)

-- the pivot of a group of the chain is one of its keys
pub opening_pivot-group : (o : Opening) (group : ℕ) → is_in_opening_chain o group ≡ true →
    (opening_pivot o group ≤ greatest_key) × (opening_group o (opening_pivot o group) ≡ group)
opening_pivot-group o group e =
    let is = in_chain_is o group e in
    let part : ℕ = part_of o group in
    let number : ℕ = number_in_part o group in
    let is_part : IsPart o part = group-part (shape o) group is.exists in (
      (pivot_key o part number is_part is.among).0,
      pivot_group o part number is_part is.among ∙ group_is_row o group,
    )

-- that of a key's group is the one with the key's number
pub group_pivot : (o : Opening) (k : ℕ) → k ≤ greatest_key →
    opening_pivot o (opening_group o k)
    ≡ slice_index (opening_pivots o (part_with (shape o).bounds k)) (number_of o (part_with (shape o).bounds k) k)
group_pivot o k small =
    λ j. slice_index (opening_pivots o (opening_group-part o k small j)) (opening_group-number o k small j)

-- and is not above the key
pub opening_pivot-least : (o : Opening) (k : ℕ) → k ≤ greatest_key →
    opening_pivot o (opening_group o k) ≤ k
opening_pivot-least o k small =
    let part : ℕ = part_with (shape o).bounds k in
    let has = part_with-has (shape o).bounds k o.layout.cut small in
    subst (λ (p : ℕ). p ≤ k) (sym (group_pivot o k small)) (number_lies o part k has.from).from

-- the group of a part's least key has it as its pivot, and is the part's first
pub opening_group-first : (o : Opening) (part : ℕ) → IsPart o part →
    (opening_group o (first_key o part) ≡ first_group_of (shape o) part)
    × (opening_pivot o (opening_group o (first_key o part)) ≡ first_key o part)
opening_group-first o part is_part =
    let among : 0 < opening_count o part = omega (arith, later_count o part) in
    let few = count_few o part 0 is_part among in
    let group = pivot_group o part 0 is_part among in (
      group ∙ omega arith,
      ap (opening_pivot o) group
          ∙ (λ j. slice_index (opening_pivots o (row-part o part 0 few j)) (row-number o part 0 few j)),
    )

-- ---- next words ----

-- the next word of a group that has one of its part behind it names that
next_more : (o : Opening) (part number : ℕ) → IsPart o part → number + 1 < opening_count o part →
    opening_next o (row_of o part number) ≡ row_of o part (number + 1) + 1
next_more o part number is_part among =
    let few = count_few o part number is_part (omega arith) in
    let group : ℕ = row_of o part number in
    let chained = in_chain o group (row_opened o part number is_part (omega arith)) in
    let behind : has_behind o group 1 ≡ true =
    (λ j. nat_lt (row-number o part number few j + 1) (opening_count o (row-part o part number few j)))
    ∙ lt-ltb (number + 1) (opening_count o part) among
    in
    (λ j. cond (chained j && behind j) (group + 1 + 1) 0) ∙ omega arith

-- that of the last one of its part names none
next_last : (o : Opening) (part number : ℕ) → number < (limits o).groups → number + 1 ≡ opening_count o part →
    opening_next o (row_of o part number) ≡ 0
next_last o part number few last =
    let group : ℕ = row_of o part number in
    let behind : has_behind o group 1 ≡ false =
    (λ j. nat_lt (row-number o part number few j + 1) (opening_count o (row-part o part number few j)))
    ∙ le-ltb (number + 1) (opening_count o part) (omega arith)
    in
    go (is_in_opening_chain o group) (has_behind o group 1) behind
  where
    go : (w v : Bool) → v ≡ false → cond (w && v) (row_of o part number + 1 + 1) 0 ≡ 0
    go true v e = ap (λ (z : Bool). cond z (row_of o part number + 1 + 1) 0) e
    go false v e = refl

-- where the group changes from one key of a part to the next, the one's next word names the other, whose pivot is
-- this key
pub opening_next-group : (o : Opening) (part k : ℕ) → IsPart o part → IsKeyIn o part k → IsKeyIn o part (k + 1) →
    opening_group o k ≢ opening_group o (k + 1) →
    (opening_next o (opening_group o k) ≡ opening_group o (k + 1) + 1)
    × (opening_pivot o (opening_group o (k + 1)) ≡ k + 1)
opening_next-group o part k is_part here there differ =
    let small : k + 1 ≤ greatest_key =
    omega (arith, there.to, last_key-greatest (shape o).bounds part o.layout.cut)
    in
    let of_part = part_with-key (shape o).bounds part k o.layout.cut is_part here in
    let next_part = part_with-key (shape o).bounds part (k + 1) o.layout.cut is_part there in
    let i : ℕ = number_of o part k in
    let j : ℕ = number_of o part (k + 1) in
    let group = group_numbered o part k (omega arith) of_part in
    let next = group_numbered o part (k + 1) small next_part in
    let apart : i ≢ j = λ e. differ (group ∙ (ap (row_of o part) e ∙ sym next)) in
    let up : i ≤ j = part_with-monotone (later o part) k (k + 1) (omega arith) in
    let among = number_among o part (k + 1) in
    let low = (number_lies o part k here.from).before (omega (arith, up, apart, among, later_count o part)) in
    let high = (number_lies o part (k + 1) there.from).from in
    let one : suc i ≡ j = ⊎_elim
    (λ (more : suc i < j).
    let above = pivots_above o part (suc i) j more among in absurd (omega (arith, above, low, high)))
    (λ (not : j ≤ suc i). omega (arith, not, up, apart))
    (cases_lt (suc i) j)
    in
    let at : i + 1 ≡ j = omega (arith, one) in
    let pivot : slice_index (opening_pivots o part) j ≡ k + 1 =
    let below = subst (λ (n : ℕ). k < slice_index (opening_pivots o part) n) one low in
    omega (arith, below, high)
    in (
      ap (opening_next o) group
          ∙ (next_more o part i is_part (omega (arith, at, among))
          ∙ (ap (λ (n : ℕ). row_of o part n + 1) at ∙ ap (λ (g : ℕ). g + 1) (sym next))),
      group_pivot o (k + 1) small
          ∙ ((λ x. slice_index (opening_pivots o (next_part x)) (number_of o (next_part x) (k + 1))) ∙ pivot),
    )

-- the group of a part's greatest key has none behind it
pub opening_next-last : (o : Opening) (part : ℕ) → IsPart o part →
    opening_next o (opening_group o (last_key o part)) ≡ 0
opening_next-last o part is_part =
    let k : ℕ = last_key o part in
    let small = last_key-greatest (shape o).bounds part o.layout.cut in
    let least_in = has_a_key (shape o).bounds part o.layout.cut is_part in
    let of_part = part_with-key (shape o).bounds part k o.layout.cut is_part (record { from = least_in; to = omega arith }) in
    let i : ℕ = number_of o part k in
    let among = number_among o part k in
    let last : i + 1 ≡ opening_count o part = ⊎_elim
    (λ (more : i < length (later o part)).
    let above = (number_lies o part k least_in).before more in
    let next : suc i < opening_count o part = omega (arith, more, later_count o part) in
    let key = pivot_key o part (suc i) is_part next in
    let has = part_with-has (shape o).bounds (slice_index (opening_pivots o part) (suc i)) o.layout.cut key.0 in
    let most = subst (λ (p : ℕ). slice_index (opening_pivots o part) (suc i) ≤ last_key o p) key.1 has.to in
    absurd (omega (arith, above, most)))
    (λ (none : length (later o part) ≤ i). omega (arith, none, among, later_count o part))
    (cases_lt i (length (later o part)))
    in
    ap (opening_next o) (group_numbered o part k small of_part)
    ∙ next_last o part i (count_few o part i is_part among) last

-- what is no group of the table names none
pub opening_next-none : (o : Opening) → opening_next o (group_total (shape o)) ≡ 0
opening_next-none o =
    let total : ℕ = group_total (shape o) in
    ap (λ (w : Bool). cond ((w && has_behind o total 0) && has_behind o total 1) (total + 1 + 1) 0)
    (le-ltb total total (omega arith))

-- ---- the keys of an array ----

-- they are those that the plan gives to the group
pub opening_keys-planned : (o : Opening) (group : ℕ) → is_in_opening_chain o group ≡ true →
    opening_keys o group ≡ group_keys (keys o (part_of o group)) (limits o).group_size (number_in_part o group)
opening_keys-planned o group e =
    let is = in_chain_is o group e in
    ap (opening_keys o) (sym (group_is_row o group))
    ∙ row_keys o (part_of o group) (number_in_part o group) (group-part (shape o) group is.exists) is.among

-- they rise from its group's pivot on
pub opening_keys-rise : (o : Opening) (group : ℕ) →
    RiseFrom (opening_pivot o group) (opening_keys o group)
opening_keys-rise o group = record {
  rising = keys_rise (opening_group o) group o.rows o.rising;
  bounded = λ some.
      let first = opening_keys-group o group 0 some in
      let least = opening_pivot-least o (slice_index (opening_keys o group) 0) first.1 in
      subst (λ (g : ℕ). opening_pivot o g ≤ slice_index (opening_keys o group) 0) first.0 least;
}

-- ---- slots ----

some_pivots : (o : Opening) (part : ℕ) → 1 ≤ length (opening_pivots o part)
some_pivots o part = omega arith

step_some : (o : Opening) (part : ℕ) → 0 < opening_step o part
step_some o part =
    div_ceil-pos (length (opening_pivots o part)) (limits o).slots (some_pivots o part) o.layout.kept.least_slots

-- there is at least one slot in use, and at most as many as there are
pub opening_slots-some : (o : Opening) (part : ℕ) → 1 ≤ opening_slots o part
opening_slots-some o part =
    div_ceil-pos (length (opening_pivots o part)) (opening_step o part) (some_pivots o part) (step_some o part)

pub opening_slots-few : (o : Opening) (part : ℕ) → opening_slots o part ≤ (limits o).slots
opening_slots-few o part =
    slot_count-le_slots (length (opening_pivots o part)) (limits o).slots (some_pivots o part)
    o.layout.kept.least_slots

slot_used : (o : Opening) (part side i : ℕ) → side ≡ 0 → i < opening_slots o part →
    is_opening_slot o part side i ≡ true
slot_used o part side i at used = rw (eq-eqb side 0 at, lt-ltb i (opening_slots o part) used) refl

-- the number of the group that a slot names
pub slot_among : (o : Opening) (part i : ℕ) → i < opening_slots o part →
    slot_group (opening_step o part) i < opening_count o part
slot_among o part i used =
    let names = (slots_reach (length (opening_pivots o part)) (opening_step o part) (step_some o part)).names i used in
    omega (arith, names, count_is o part)

-- a slot in use has the pivot of the group that it names
pub opening_slot-is : (o : Opening) (part side i : ℕ) → side ≡ 0 → i < opening_slots o part →
    (opening_slot o part side i ≡ row_of o part (slot_group (opening_step o part) i))
    × (opening_slot_pivot o part side i
    ≡ slice_index (opening_pivots o part) (slot_group (opening_step o part) i))
opening_slot-is o part side i at used =
    let is = slot_used o part side i at used in (
      ap (λ (w : Bool). cond w (row_of o part (slot_group (opening_step o part) i)) 0) is,
      ap (λ (w : Bool). cond w (slot_pivot (opening_pivots o part) (limits o).slots i) 0) is,
    )

-- which is a key of the part that has this group
pub opening_slot-group : (o : Opening) (part side i : ℕ) → IsPart o part → side ≡ 0 → i < opening_slots o part →
    (opening_group o (opening_slot_pivot o part side i) ≡ opening_slot o part side i)
    × IsKeyIn o part (opening_slot_pivot o part side i)
opening_slot-group o part side i is_part at used =
    let is = opening_slot-is o part side i at used in
    let number : ℕ = slot_group (opening_step o part) i in
    let among = slot_among o part i used in
    let key = pivot_key o part number is_part among in
    let has = part_with-has (shape o).bounds (slice_index (opening_pivots o part) number) o.layout.cut key.0 in (
      ap (opening_group o) is.1 ∙ (pivot_group o part number is_part among ∙ sym is.0),
      subst (IsKeyIn o part) (sym is.1)
          (subst (λ (p : ℕ). IsKeyIn o p (slice_index (opening_pivots o part) number)) key.1 has),
    )

-- the first slot has the part's least key
pub opening_slot-least : (o : Opening) (part side : ℕ) → side ≡ 0 →
    opening_slot_pivot o part side 0 ≡ first_key o part
opening_slot-least o part side at =
    let is = opening_slot-is o part side 0 at (opening_slots-some o part) in
    let none : slot_group (opening_step o part) 0 ≡ 0 = omega arith in
    is.1 ∙ ap (slice_index (opening_pivots o part)) none

-- the pivots of the slots rise
pub opening_slots-rise : (o : Opening) (part side i : ℕ) → side ≡ 0 → i + 1 < opening_slots o part →
    opening_slot_pivot o part side i < opening_slot_pivot o part side (i + 1)
opening_slots-rise o part side i at used =
    let here = (opening_slot-is o part side i at (omega arith)).1 in
    let next = (opening_slot-is o part side (i + 1) at used).1 in
    let up = (slots_divide (opening_pivots o part) (limits o).slots (some_pivots o part) o.layout.kept.least_slots
    (pivots_up o part)).rise i (i + 1) (omega arith) used in
    omega (arith, here, next, up)
