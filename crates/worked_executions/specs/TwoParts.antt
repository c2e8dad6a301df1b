-- Two parts are rebuilt at once: each has a keeper of its own, and the one's rebuild begins between two steps of the
-- other's.
--
-- The table has one caller, 0, and two parts: part 0 has the keys below 10, and part 1 the others. Their keepers are 1
-- and 2. Part 0 has the group rows 0 and 1, and part 1 has 2 and 3. There are two record rows, at 236 and 240.
use Rattle.std.specs.Prelude.{◌≡◌, ℕ, Some, [], ◌∷◌}
use Rattle.word_layout.specs.declared.limits.Limits.{Limits}
use Rattle.word_layout.specs.declared.places.Part.TheVariants.{Key, Value, Link}
use Rattle.word_layout.specs.declared.headers.HeaderWord.TheVariants as header
use Rattle.word_layout.specs.declared.phase.Phase.TheVariants.{Frozen, Opened}
use Rattle.word_layout.specs.Parts.{greatest_key}
use Rattle.word_layout.specs.Shape.{Shape}
use Rattle.map_model.specs.declared.entries.Change.TheVariants as change
use Rattle.index_machine.specs.declared.events.Action.TheVariants.{Enter, Leave, LoadFree}
use Rattle.index_machine.specs.declared.events.Action.TheVariants.{LoadFreeLink, PopFree, StorePrivate}
use Rattle.index_machine.specs.declared.events.Action.TheVariants.{LoadRoot, LoadSlotGroup, LoadPhase}
use Rattle.index_machine.specs.declared.events.Action.TheVariants.{LoadHeader, LoadHead, LinkRow}
use Rattle.index_machine.specs.declared.events.Action.TheVariants.{Freeze, NewGroup, StoreHeader}
use Rattle.index_machine.specs.declared.events.Action.TheVariants.{StoreOpened, Install}
use Rattle.index_machine.specs.declared.events.InstallWord.TheVariants.{FirstSlot}
use Rattle.index_machine.specs.declared.opening.Opening.{Opening}
use Rattle.index_machine.specs.Execution.{Execution, event}
use Rattle.index_machine.specs.Words.{shape}
use Rattle.index_machine.specs.Keepers.{part_of, IsKeyIn}
use Rattle.index_machine.specs.Groups.{phase, rebuild}
use Rattle.index_machine.specs.KeyRanges.{group_of}
use Rattle.index_machine.specs.Permissions.{IsGone}
use Rattle.index_machine.specs.Conditions.{Valid}

-- the limits of the table: each part has two group rows and one slot
abbrev pub two_part_limits : Limits
two_part_limits =
    record {
      callers = 1;
      records = 2;
      groups = 2;
      group_size = 8;
      slots = 1;
      due = 1;
      help = 1;
      chain = 1;
      first_version = 0;
    }

-- its shape: part 1 begins at the key 10
abbrev pub two_parts : Shape
two_parts = record { limits = two_part_limits; bounds = 10 ∷ [] }

-- ---- the execution ----

-- the keeper of part 0 freezes group 0, and writes the header of group 1
abbrev pub first_frozen : Execution
first_frozen =
    event 1 (StoreHeader 1 header.Lanes 1)
    ∷ event 1 (Freeze 0)
    ∷ []

-- before it begins group 1, the keeper of part 1 freezes group 2
abbrev pub both_frozen : Execution
both_frozen = event 2 (Freeze 2) ∷ first_frozen

-- the one begins group 1 and opens group 0 to it, and the other writes the header of group 3 meanwhile
abbrev pub first_opened : Execution
first_opened =
    event 1 (StoreOpened 0 1)
    ∷ event 2 (StoreHeader 3 header.Lanes 1)
    ∷ event 2 (StoreHeader 3 (header.Cut 0) 10)
    ∷ event 1 (NewGroup 1 0 9 1)
    ∷ both_frozen

-- the caller comes by the opened group 0 to group 1, to put the key 5 with the value 7
abbrev pub caller_in_first : Execution
caller_in_first =
    event 0 (LoadPhase 0 6)
    ∷ event 0 (LoadSlotGroup 0 0 0 0)
    ∷ event 0 (LoadRoot 0 2)
    ∷ event 0 (Enter 1)
    ∷ first_opened

-- the keeper of part 1 begins group 3, while part 0 has a rebuild under way and the caller is inside
abbrev pub second_begun : Execution
second_begun = event 2 (NewGroup 3 10 greatest_key 3) ∷ caller_in_first

-- the caller links its row into group 1
abbrev pub linked : Execution
linked =
    event 0 (LinkRow 1 0 236 (change.Put 0 5 7) 0 0)
    ∷ event 0 (StorePrivate 236 Link 0)
    ∷ event 0 (StorePrivate 236 Value 7)
    ∷ event 0 (StorePrivate 236 Key 5)
    ∷ event 0 (PopFree 236 240)
    ∷ event 0 (LoadFreeLink 236 240)
    ∷ event 0 (LoadFree 236)
    ∷ event 0 (LoadHead 1 0 0)
    ∷ event 0 (LoadHeader 1 header.Lanes 1)
    ∷ second_begun

-- the keeper of part 0 installs group 1
abbrev pub first_installed : Execution
first_installed = event 1 (Install (FirstSlot 0 0) 1 0 9) ∷ linked

-- that of part 1 opens group 2 to group 3, while the caller still stands in group 0
abbrev pub second_opened : Execution
second_opened = event 2 (StoreOpened 2 3) ∷ first_installed

-- the caller leaves, and the keeper of part 1 installs group 3
abbrev pub both_installed : Execution
both_installed =
    event 2 (Install (FirstSlot 1 0) 3 10 greatest_key)
    ∷ event 0 (Leave 2)
    ∷ second_opened

-- ---- what stands meanwhile ----

-- this group answers for the keys of part 0, and that one for those of part 1
pub record HaveGroups (o : Opening) (first second : ℕ) (t : Execution) : Type 0 where
  pub of_first : (k : ℕ) → IsKeyIn o 0 k → group_of o k t ≡ first
  pub of_second : (k : ℕ) → IsKeyIn o 1 k → group_of o k t ≡ second

-- no group of part 0 can be begun next
abbrev pub NoneOfFirstIsBegun : Opening → Execution → Type 0
NoneOfFirstIsBegun o t =
    (hand group low high first : ℕ) → part_of o group ≡ 0 →
    Valid o (event hand (NewGroup group low high first) ∷ t) → ⊥

-- the two keepers are at different stages of their rebuilds, moment by moment
pub record AreAtDifferentStages (o : Opening) : Type 0 where
  -- the one opened its group, and the other froze its own
  pub opened : (phase 0 caller_in_first ≡ Opened 1) × (phase 2 caller_in_first ≡ Frozen)
  -- next the other begins a new group, where the one could not
  pub begun : (rebuild 3 second_begun ≡ Some 3) × NoneOfFirstIsBegun o caller_in_first
  -- the one installed, and the other has still its old group
  pub installed : HaveGroups o 1 2 first_installed × (phase 2 first_installed ≡ Frozen)
  -- the other opened, while the caller still stands in the old group of the one, which is not gone
  pub opened_too : (phase 2 second_opened ≡ Opened 3) × (IsGone o 0 second_opened → ⊥)
  -- both installed
  pub installed_too : HaveGroups o 1 3 both_installed

-- on some table of this shape, opened without rows, all this is valid
abbrev pub TwoPartsAreRebuiltAtOnce : Type 0
TwoPartsAreRebuiltAtOnce =
    (o : Opening) × (shape o ≡ two_parts) × (o.rows ≡ []) × Valid o both_installed
    × AreAtDifferentStages o
