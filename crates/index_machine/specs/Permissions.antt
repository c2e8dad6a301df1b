-- Who may insert into a buffer, which buffer a new key belongs in, and when a group is gone.
use Rattle.std.specs.Prelude.{◌≡◌, ◌≢◌, ◌⊎◌, ℕ, true, Some}
use Rattle.word_layout.specs.declared.phase.Phase.TheVariants.{Opened}
use Rattle.index_machine.specs.declared.opening.Opening.{Opening}
use Rattle.index_machine.specs.Execution.{Execution}
use Rattle.index_machine.specs.Sections.{IsCaller}
use Rattle.index_machine.specs.Groups.{phase, rebuild, slot, root, IsInUse}
use Rattle.index_machine.specs.KeyRanges.{group_of, successor}
use Rattle.index_machine.specs.Reaching.{SeesSlot, saw_open, saw_opened, stands_in}

-- ---- inserting ----

-- the hand has an insert permission into the group's buffer: in this read section it saw the group open,
-- or an old group opened to the rebuild that made this one
abbrev pub MayInsertInto : ℕ → ℕ → Execution → Type 0
MayInsertInto hand group t =
    (saw_open hand group t ≡ true)
    ⊎ ((first : ℕ) × (rebuild group t ≡ Some first) × (saw_opened hand first t ≡ true))

-- no caller has an insert permission into the group's buffer
abbrev pub IsClosedToInserts : Opening → ℕ → Execution → Type 0
IsClosedToInserts o group t =
    (caller : ℕ) → IsCaller o caller → MayInsertInto caller group t → ⊥

-- the buffer in which a key's row belongs: that of its group, or while this is opened that of its
-- new group
abbrev pub IsBufferFor : Opening → ℕ → ℕ → Execution → Type 0
IsBufferFor o k group t =
    (group_of o k t ≡ group)
    ⊎ ((first : ℕ) × (phase (group_of o k t) t ≡ Opened first) × (successor k t ≡ Some group))

-- the group was not opened to a rebuild
abbrev pub IsUnopened : ℕ → Execution → Type 0
IsUnopened group t = (first : ℕ) → phase group t ≢ Opened first

-- ---- groups out of the chain ----

-- a hand can load the slot: it is in use, or a caller loaded its root while it was
abbrev pub IsReadableSlot : Opening → ℕ → ℕ → ℕ → Execution → Type 0
IsReadableSlot o part side i t =
    IsInUse (root o part t) side i
    ⊎ ((caller : ℕ) × IsCaller o caller × SeesSlot caller part side i t)

-- the group is out of the chain, nothing that can be loaded in a root names it, and no caller
-- stands there
pub record IsGone (o : Opening) (group : ℕ) (t : Execution) : Type 0 where
  pub unowned : (k : ℕ) → group_of o k t ≢ group
  pub unnamed : (part side i : ℕ) → IsReadableSlot o part side i t → slot o part side i t ≢ group
  pub empty : (caller : ℕ) → IsCaller o caller → stands_in caller group t ≡ true → ⊥

-- all groups that were opened to this rebuild are gone
abbrev pub AreGone : Opening → ℕ → Execution → Type 0
AreGone o first t = (group : ℕ) → phase group t ≡ Opened first → IsGone o group t

-- the group was opened to a rebuild whose old groups are all gone
abbrev pub IsReplaced : Opening → ℕ → Execution → Type 0
IsReplaced o group t = (first : ℕ) × (phase group t ≡ Opened first) × AreGone o first t

-- what leads a hand to a group: the key range of a key, a slot that it sees, the chain of the old
-- groups or of the new ones, or the phase of an old group where it stands
abbrev pub IsReachable : Opening → ℕ → ℕ → Execution → Type 0
IsReachable o hand group t =
    ((k : ℕ) × (group_of o k t ≡ group))
    ⊎ (((part : ℕ) × (side : ℕ) × (i : ℕ) × SeesSlot hand part side i t
    × (slot o part side i t ≡ group))
    ⊎ (((old : ℕ) × (first : ℕ) × (stands_in hand old t ≡ true) × (phase old t ≡ Opened first)
    × (phase group t ≡ Opened first))
    ⊎ (((first : ℕ) × (rebuild group t ≡ Some first) × (saw_opened hand first t ≡ true))
    ⊎ ((old : ℕ) × (stands_in hand old t ≡ true) × (phase old t ≡ Opened group)))))
