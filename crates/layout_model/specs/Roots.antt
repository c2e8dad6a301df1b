-- The slots of a part's root: how a root is built, and what an install does to it.
use Rattle.std.specs.Prelude.{ℕ, cond, ◌==◌, List, map, length}
use Rattle.std.specs.List.{list_any, range_with_len}
use Rattle.rebuild_plan.specs.Keys.{slot_pivot}
use Rattle.rebuild_plan.specs.Plan.{slot_count, step_of}
use Rattle.layout_model.specs.Groups.{Group, pivots_of}
use Rattle.layout_model.specs.Layout.{Slot}
use Rattle.layout_model.specs.Stretches.{begin_of}

-- a slot at a group
abbrev pub slot_at : ℕ → Slot
slot_at pivot = record { pivot = pivot; group = pivot }

-- the slots of a new root over the groups, which has room for so many
abbrev pub root_over : (room : ℕ) (chain : List Group) → List Slot
root_over room chain =
    let pivots = pivots_of chain in
    map (λ slot. slot_at (slot_pivot pivots room slot))
    (range_with_len 0 (slot_count (length pivots) (step_of (length pivots) room)))

-- a slot that named an old group names the last new one whose pivot is at most its own
abbrev pub renamed_slot : (old new : List ℕ) → Slot → Slot
renamed_slot old new slot =
    cond (list_any (λ pivot. pivot == slot.group) old)
    (record slot { group = begin_of new slot.pivot }) slot

-- the slots once the new groups stand in the place of the old ones
abbrev pub renamed : (old new : List Group) → List Slot → List Slot
renamed old new slots = map (renamed_slot (pivots_of old) (pivots_of new)) slots
