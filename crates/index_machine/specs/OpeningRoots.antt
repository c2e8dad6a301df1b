-- The roots that the table is opened with: which groups their slots name.
--
-- The fact to remember: the slots in use are on side 0, and the first names the part's first group.
use Rattle.std.specs.Prelude.{ℕ, ◌+◌, Bool, cond, ◌==◌, ◌&&◌, nat_lt, length}
use Rattle.rebuild_plan.specs.Keys.{slot_pivot}
use Rattle.rebuild_plan.specs.Plan.{step_of, slot_count, slot_group}
use Rattle.word_layout.specs.Layout.{limits_of, shape_of}
use Rattle.word_layout.specs.Root.{word_of_root}
use Rattle.word_layout.specs.Shape.{first_group_of}
use Rattle.index_machine.specs.declared.opening.Opening.{Opening}
use Rattle.index_machine.specs.OpeningRows.{opening_pivots}

-- how many groups of a part lie between one slot and the next
abbrev pub opening_step : Opening → ℕ → ℕ
opening_step o part = step_of (length (opening_pivots o part)) (limits_of o.layout).slots

-- how many slots of a part's root are in use
abbrev pub opening_slots : Opening → ℕ → ℕ
opening_slots o part = slot_count (length (opening_pivots o part)) (opening_step o part)

-- whether a slot is in use
abbrev pub is_opening_slot : Opening → ℕ → ℕ → ℕ → Bool
is_opening_slot o part side i = (side == 0) && nat_lt i (opening_slots o part)

-- the pivot of a slot
abbrev pub opening_slot_pivot : Opening → ℕ → ℕ → ℕ → ℕ
opening_slot_pivot o part side i =
    cond (is_opening_slot o part side i) (slot_pivot (opening_pivots o part) (limits_of o.layout).slots i) 0

-- the group that a slot names
abbrev pub opening_slot : Opening → ℕ → ℕ → ℕ → ℕ
opening_slot o part side i =
    cond (is_opening_slot o part side i)
    (first_group_of (shape_of o.layout) part + slot_group (opening_step o part) i)
    0

-- a part's root word
abbrev pub opening_root : Opening → ℕ → ℕ
opening_root o part = word_of_root (opening_slots o part) 0
