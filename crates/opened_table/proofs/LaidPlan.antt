-- What the plan says of a part, in the numbers with which its words are laid out.
use Rattle.std.proofs.Common.{◌≡◌, ℕ, zero, suc, ◌+◌, ◌*◌, ◌<◌, ◌≤◌, Bool, true, cond, List, length, slice_index}
use Rattle.std.proofs.Common.{slice_index_or, refl, sym, ap, ◌∙◌, arith, lt-ltb}
use Rattle.std.specs.Int.{div_ceil}
use Rattle.std.specs.Prelude.{◌&&◌, nat_lt}
use Rattle.std.proofs.lemmas.Bool.{le-ltb}
use Rattle.map_model.specs.Map.{Map}
use Rattle.rebuild_plan.specs.Plan.{first_record, group_count, share_of, step_of}
use Rattle.rebuild_plan.proofs.PlanLaws.{pivots-at}
use Rattle.rebuild_plan.proofs.SharesLaws.{first_record-below}
use Rattle.word_layout.specs.declared.limits.Limits.{Limits}
use Rattle.word_layout.specs.Parts.{part_with}
use Rattle.word_layout.specs.Shape.{first_group_of}
use Rattle.word_layout.specs.Words.{Root, SlotPivot, SlotGroup}
use Rattle.index_machine.specs.declared.opening.Opening.{Opening}
use Rattle.index_machine.specs.Keepers.{IsPart, part_of}
use Rattle.index_machine.specs.OpeningRoots.{opening_slots, opening_step}
use Rattle.index_machine.specs.OpeningRows.{has_behind, is_in_opening_chain, number_in_part, opening_count}
use Rattle.index_machine.specs.OpeningRows.{opening_next, opening_pivot, opening_pivots}
use Rattle.index_machine.specs.Words.{shape, limits, opening_word}
use Rattle.index_machine.proofs.OpeningPlan.{big_group, count_few, count_is, in_chain, keys, least, row-number}
use Rattle.index_machine.proofs.OpeningPlan.{row-part, row_opened, size}
use Rattle.opened_table.specs.Laying.{group_row, keys_in, rows_of_part, share_in}
use Rattle.opened_table.proofs.GroupRows.{keys_of_group}
use Rattle.opened_table.proofs.LaidKeys.{key_in}
use Rattle.opened_table.proofs.LaidParts.{many_of_part}

-- ---- how many groups, and how many rows each is given ----

pub count_of_rows : (o : Opening) (part : ℕ) (rows : Map) (l : Limits) → rows ≡ rows_of_part o part →
    l ≡ limits o → group_count (length rows) l.group_size ≡ opening_count o part
count_of_rows o part rows l are same =
    ap (λ (n : ℕ). group_count n l.group_size) (ap (λ (z : Map). length z) are ∙ sym (many_of_part o part))
    ∙ ap (λ (z : Limits). group_count (length (keys o part)) z.group_size) same

pub share_of_rows : (o : Opening) (part groups : ℕ) (rows : Map) → rows ≡ rows_of_part o part →
    groups ≡ opening_count o part → share_of (length rows) groups ≡ share_in o part
share_of_rows o part groups rows are same =
    ap (λ (n : ℕ). share_of n groups) (ap (λ (z : Map). length z) are ∙ sym (many_of_part o part))
    ∙ ap (λ (n : ℕ). share_of (length (keys o part)) n) same

-- ---- the pivot of a group ----

-- a later group begins at a row
pub begins_below : (o : Opening) (part number : ℕ) → 1 ≤ number → number < opening_count o part →
    number * share_in o part < length (rows_of_part o part)
begins_below o part number later among =
    let below = first_record-below (length (keys o part)) (size o part) number (big_group o) later among in
    let many = many_of_part o part in
    omega (arith, below, many)

-- whose key is its pivot
pub pivot_of_row : (o : Opening) (part number : ℕ) → 1 ≤ number → number < opening_count o part →
    (slice_index_or (rows_of_part o part) (number * share_in o part) (0, 0)).0
    ≡ slice_index (opening_pivots o part) number
pivot_of_row o part zero later among = absurd (omega (arith, later))
pivot_of_row o part (suc before) later among =
    let at : ℕ = first_record (share_in o part) (suc before) in
    sym (key_in (rows_of_part o part) at)
    ∙ (sym (ap (λ (z : List ℕ). slice_index z at) (keys_of_group (part_with (shape o).bounds) part o.rows))
    ∙ sym (pivots-at (least o part) (keys o part) (size o part) (suc before) among))

pub pivot_in_part : (o : Opening) (part number : ℕ) → IsPart o part → number < opening_count o part →
    slice_index (opening_pivots o part) number ≡ opening_pivot o (group_row o part number)
pivot_in_part o part number is_part among =
    let few = count_few o part number is_part among in
    ap (λ (z : ℕ × ℕ). slice_index (opening_pivots o z.0) z.1)
    (λ j. (sym (row-part o part number few) j, sym (row-number o part number few) j))

-- ---- the group behind a group ----

-- it is there where the number behind is among those of the part
next_by_number : (o : Opening) (part number : ℕ) → IsPart o part → number < opening_count o part →
    opening_next o (group_row o part number)
    ≡ cond (nat_lt (number + 1) (opening_count o part)) (group_row o part number + 1 + 1) 0
next_by_number o part number is_part among =
    let few = count_few o part number is_part among in
    let group : ℕ = group_row o part number in
    let chained : is_in_opening_chain o group ≡ true = in_chain o group (row_opened o part number is_part among) in
    let behind : has_behind o group 1 ≡ nat_lt (number + 1) (opening_count o part) =
    ap (λ (z : ℕ × ℕ). nat_lt (z.0 + 1) (opening_count o z.1))
    (λ j. (row-number o part number few j, row-part o part number few j))
    in
    ap (λ (z : Bool × Bool). cond (z.0 && z.1) (group + 1 + 1) 0) (λ j. (chained j, behind j))

pub next_is_behind : (o : Opening) (part number : ℕ) → IsPart o part → number + 1 < opening_count o part →
    opening_next o (group_row o part number) ≡ group_row o part number + 2
next_is_behind o part number is_part more =
    let group : ℕ = group_row o part number in
    let two : group + 1 + 1 ≡ group + 2 = omega arith in
    next_by_number o part number is_part (omega (arith, more))
    ∙ (ap (λ (b : Bool). cond b (group + 1 + 1) 0) (lt-ltb (number + 1) (opening_count o part) more) ∙ two)

pub next_none : (o : Opening) (part number : ℕ) → IsPart o part → number < opening_count o part →
    opening_count o part ≤ number + 1 → opening_next o (group_row o part number) ≡ 0
next_none o part number is_part among last =
    next_by_number o part number is_part among
    ∙ ap (λ (b : Bool). cond b (group_row o part number + 1 + 1) 0)
    (le-ltb (number + 1) (opening_count o part) last)

-- ---- the slots of a root ----

pub step_is : (o : Opening) (part groups step : ℕ) (l : Limits) → groups ≡ opening_count o part →
    l ≡ limits o → step ≡ step_of groups l.slots → step ≡ opening_step o part
step_is o part groups step l count same e =
    e
    ∙ (ap (λ (n : ℕ). step_of n l.slots) (count ∙ sym (count_is o part))
    ∙ ap (λ (z : Limits). step_of (length (opening_pivots o part)) z.slots) same)

pub slots_are : (o : Opening) (part groups step : ℕ) → groups ≡ opening_count o part →
    step ≡ opening_step o part → div_ceil groups step ≡ opening_slots o part
slots_are o part groups step count same =
    ap (λ (n : ℕ). div_ceil n step) (count ∙ sym (count_is o part))
    ∙ ap (λ (n : ℕ). div_ceil (length (opening_pivots o part)) n) same

pub root_word : (o : Opening) (part slots : ℕ) → slots ≡ opening_slots o part →
    2 * slots ≡ opening_word o (Root part)
root_word o part slots same =
    let none : 2 * slots ≡ 2 * slots + 0 = omega arith in none ∙ ap (λ (n : ℕ). 2 * n + 0) same

-- a slot in use has the pivot of the group that it names
pub slot_pivot_word : (o : Opening) (part i step : ℕ) → i < opening_slots o part → step ≡ opening_step o part →
    slice_index (opening_pivots o part) (i * step) ≡ opening_word o (SlotPivot part 0 i)
slot_pivot_word o part i step used same =
    ap (λ (n : ℕ). slice_index (opening_pivots o part) (i * n)) same
    ∙ sym (ap (λ (b : Bool). cond b (slice_index (opening_pivots o part) (i * opening_step o part)) 0)
    (lt-ltb i (opening_slots o part) used))

pub slot_group_word : (o : Opening) (part i step : ℕ) → i < opening_slots o part → step ≡ opening_step o part →
    first_group_of (shape o) part + i * step ≡ opening_word o (SlotGroup part 0 i)
slot_group_word o part i step used same =
    ap (λ (n : ℕ). first_group_of (shape o) part + i * n) same
    ∙ sym (ap (λ (b : Bool). cond b (first_group_of (shape o) part + i * opening_step o part) 0)
    (lt-ltb i (opening_slots o part) used))
