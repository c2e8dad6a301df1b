-- The phase of a group, the rebuild that made it, and what the roots name.
use Rattle.std.specs.Prelude.{◌≡◌, ℕ, ◌+◌, ◌*◌, ◌<◌, Bool, cond, ◌==◌, ◌&&◌, Option, Some}
use Rattle.std.specs.Prelude.{None, [], ◌∷◌}
use Rattle.word_layout.specs.declared.phase.Phase.{Phase}
use Rattle.word_layout.specs.declared.phase.Phase.TheVariants.{Open, Frozen, Opened}
use Rattle.index_machine.specs.declared.events.Action.{Action}
use Rattle.index_machine.specs.declared.events.InstallWord.{InstallWord}
use Rattle.index_machine.specs.declared.events.InstallWord.TheVariants.{NextOf, FirstSlot}
use Rattle.index_machine.specs.declared.events.Action.TheVariants.{Freeze, Thaw, NewGroup}
use Rattle.index_machine.specs.declared.events.Action.TheVariants.{StoreOpened, Install, StoreSlot}
use Rattle.index_machine.specs.declared.events.Action.TheVariants.{StoreUnusedGroup, StoreRoot}
use Rattle.index_machine.specs.declared.opening.Opening.{Opening}
use Rattle.index_machine.specs.Execution.{Execution}
use Rattle.index_machine.specs.OpeningRoots.{opening_slot, opening_root}

-- ---- phases ----

-- what was opened to a rebuild whose name is used again counts as open: it is out of the chain, and
-- its row is free
abbrev pub name_used_again : ℕ → Phase → Phase
name_used_again new Open = Open
name_used_again new Frozen = Frozen
name_used_again new (Opened first) = cond (first == new) Open (Opened first)

-- the phase of a group after an action, where it was this before
abbrev pub phase_after : ℕ → Action → Phase → Phase
phase_after group (Freeze g) x = cond (g == group) Frozen x
phase_after group (Thaw g) x = cond (g == group) Open x
phase_after group (NewGroup g low high first) x = cond (g == group) Open (name_used_again g x)
phase_after group (StoreOpened g first) x = cond (g == group) (Opened first) x
phase_after group _ x = x

-- the phase of a group
abbrev pub phase : ℕ → Execution → Phase
phase group [] = Open
phase group (e ∷ t) = phase_after group e.action (phase group t)

-- the number of a group, unless it is this one
abbrev pub unless_named : ℕ → Option ℕ → Option ℕ
unless_named new None = None
unless_named new (Some group) = cond (group == new) None (Some group)

-- the rebuild that made a group, after an action, where it was this before: a group that is begun
-- anew names no older rebuild any more
abbrev pub rebuild_after : ℕ → Action → Option ℕ → Option ℕ
rebuild_after group (NewGroup g low high first) x =
    cond (g == group) (Some first) (unless_named g x)
rebuild_after group _ x = x

-- the rebuild that made a group, by the number of its first new group
abbrev pub rebuild : ℕ → Execution → Option ℕ
rebuild group [] = None
rebuild group (e ∷ t) = rebuild_after group e.action (rebuild group t)

-- ---- the root ----

-- whether two slots are one: of one part and side, and with one number
abbrev pub same_slot : ℕ → ℕ → ℕ → ℕ → ℕ → ℕ → Bool
same_slot part side i other_part other j = (part == other_part) && ((side == other) && (i == j))

-- the group that a slot names after an install by this word, where it named this group before
abbrev pub slot_installed : ℕ → ℕ → ℕ → InstallWord → ℕ → ℕ → ℕ
slot_installed part side i (NextOf left) first group = group
slot_installed part side i (FirstSlot p s) first group =
    cond (same_slot p s 0 part side i) first group

-- the group that a slot names after an action, where it named this group before
abbrev pub slot_after : ℕ → ℕ → ℕ → Action → ℕ → ℕ
slot_after part side i (StoreSlot p s j g) group = cond (same_slot p s j part side i) g group
slot_after part side i (StoreUnusedGroup p s j g) group =
    cond (same_slot p s j part side i) g group
slot_after part side i (Install spot lead low high) group =
    slot_installed part side i spot lead group
slot_after part side i _ group = group

-- the group that a slot of a side of a part's root names
abbrev pub slot : Opening → ℕ → ℕ → ℕ → Execution → ℕ
slot o part side i [] = opening_slot o part side i
slot o part side i (e ∷ t) = slot_after part side i e.action (slot o part side i t)

-- the root word of a part after an action, where it was this before
abbrev pub root_after : ℕ → Action → ℕ → ℕ
root_after part (StoreRoot p word) w = cond (p == part) word w
root_after part _ w = w

-- the root word of a part
abbrev pub root : Opening → ℕ → Execution → ℕ
root o part [] = opening_root o part
root o part (e ∷ t) = root_after part e.action (root o part t)

-- a root word names this slot as one in use
abbrev pub IsInUse : ℕ → ℕ → ℕ → Type 0
IsInUse word side i = (count : ℕ) × (word ≡ 2 * count + side) × (side < 2) × (i < count)
