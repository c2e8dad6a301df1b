-- How many groups the rows of an opening are planned into, and tables that are opened with one group in each part.
use Rattle.std.proofs.Common.{◌≡◌, ℕ, ◌*◌, ◌<◌, ◌≤◌, Bool, true, false, cond, [], ◌∷◌, length, ap, ◌∙◌, arith}
use Rattle.std.specs.Prelude.{◌==◌}
use Rattle.std.specs.Int.{div_ceil}
use Rattle.map_model.specs.Map.{Map}
use Rattle.rebuild_plan.specs.Plan.{fill_limit}
use Rattle.rebuild_plan.proofs.Rounding.{div_ceil-least}
use Rattle.word_layout.specs.declared.layout.Layout.{Layout}
use Rattle.word_layout.specs.Layout.{shape_of}
use Rattle.word_layout.specs.Parts.{greatest_key, part_with}
use Rattle.word_layout.specs.Shape.{Shape, first_group_of}
use Rattle.word_layout.proofs.PartGroups.{part_with-within}
use Rattle.index_machine.specs.declared.opening.Opening.{Opening}
use Rattle.index_machine.specs.OpeningPlan.{FitsTable, keys_for, part_keys, planned_count}
use Rattle.index_machine.specs.Keepers.{IsPart}
use Rattle.index_machine.specs.OpeningRows.{opening_count, opening_group}
use Rattle.index_machine.specs.Words.{limits, shape}
use Rattle.index_machine.proofs.OpeningPlan.{number_among, number_of, opening_group-is, row_of}

-- ---- a few rows ----

-- a number has no more keys than there are rows
keys_among : (of : ℕ → ℕ) (g : ℕ) (rows : Map) → length (keys_for of g rows) ≤ length rows
keys_among of g [] = omega arith
keys_among of g (r ∷ rows) = one_more (of r.0 == g) (keys_among of g rows)
  where
    one_more : (here : Bool) → length (keys_for of g rows) ≤ length rows →
        length (cond here (r.0 ∷ keys_for of g rows) (keys_for of g rows)) ≤ length (r ∷ rows)
    one_more true few = omega (arith, few)
    one_more false few = omega (arith, few)

-- rows that fit into so many groups are planned into no more of them, in each part
pub count_most : (s : Shape) (rows : Map) (groups part : ℕ) → 8 ≤ s.limits.group_size → 0 < groups →
    length rows ≤ groups * fill_limit s.limits.group_size → planned_count s rows part ≤ groups
count_most s rows groups part big some few =
    let own : ℕ = length (part_keys s rows part) in
    let most : ℕ = fill_limit s.limits.group_size in
    let among = keys_among (part_with s.bounds) part rows in
    let enough : div_ceil own most ≤ groups =
    div_ceil-least own most groups (omega (arith, big)) (omega (arith, among, few))
    in
    omega (arith, some, enough)

-- rows fit that would fit into the groups of one part
pub rows_fit : (l : Layout) (rows : Map) →
    length rows ≤ (shape_of l).limits.groups * fill_limit (shape_of l).limits.group_size →
    FitsTable (shape_of l) rows
rows_fit l rows few part is_part =
    let least = l.kept.least_groups in
    count_most (shape_of l) rows (shape_of l).limits.groups part l.kept.least_group_size (omega (arith, least)) few

-- ---- tables with one group in each part ----

-- the table was opened with one group in each part
abbrev pub HasOneGroupEach : Opening → Type 0
HasOneGroupEach o = (part : ℕ) → IsPart o part → opening_count o part ≡ 1

-- one that is opened with a few rows is such a table
pub one_group_each : (o : Opening) → length o.rows ≤ fill_limit (limits o).group_size → HasOneGroupEach o
one_group_each o few part is_part =
    let most = count_most (shape o) o.rows 1 part o.layout.kept.least_group_size (omega arith) (omega (arith, few)) in
    omega (arith, most)

-- the one group answers for all keys of its part
pub group_of_part : (o : Opening) → HasOneGroupEach o → (k : ℕ) → k ≤ greatest_key →
    opening_group o k ≡ first_group_of (shape o) (part_with (shape o).bounds k)
group_of_part o one k small =
    let part : ℕ = part_with (shape o).bounds k in
    let among = number_among o part k in
    let alone = one part (part_with-within (shape o).bounds k) in
    let first : number_of o part k ≡ 0 = omega (arith, among, alone) in
    opening_group-is o k small ∙ (ap (row_of o part) first ∙ omega arith)
