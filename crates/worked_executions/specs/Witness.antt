-- A whole rebuild, with callers' steps in between, to its end with a row and a group row used
-- again.
--
-- The table has one caller, whose number is 0, a keeper, 1, two record rows, at 119 and 123, and two
-- groups. The first place of the array of group 1 is 87. Group 0 is opened with one lane; group 1 and
-- then group 0 are begun with two.
use Rattle.std.specs.Prelude.{◌≡◌, false, [], ◌∷◌}
use Rattle.word_layout.specs.declared.limits.Limits.{Limits}
use Rattle.word_layout.specs.declared.places.Part.TheVariants.{Key, Value, Link}
use Rattle.map_model.specs.declared.entries.Change.TheVariants as change
use Rattle.index_machine.specs.declared.events.Action.TheVariants.{Enter, Leave, LoadFree}
use Rattle.index_machine.specs.declared.events.Action.TheVariants.{LoadFreeLink}
use Rattle.index_machine.specs.declared.events.Action.TheVariants.{PopFree, StorePrivate, PushFree}
use Rattle.index_machine.specs.declared.events.Action.TheVariants.{LoadState, Lock, StoreValue}
use Rattle.index_machine.specs.declared.events.Action.TheVariants.{Unlock}
use Rattle.index_machine.specs.declared.events.Action.TheVariants.{LoadHead, LinkRow, Retire}
use Rattle.index_machine.specs.declared.events.Action.TheVariants.{LoadHeader, LoadPhase}
use Rattle.index_machine.specs.declared.events.Action.TheVariants.{Freeze, NewGroup, StoreArray}
use Rattle.index_machine.specs.declared.events.Action.TheVariants.{StoreRedirect, StoreOpened}
use Rattle.index_machine.specs.declared.events.Action.TheVariants.{Install}
use Rattle.index_machine.specs.declared.events.Action.TheVariants.{Close, Copy, StoreDirect}
use Rattle.index_machine.specs.declared.events.Action.TheVariants.{StoreMoved}
use Rattle.index_machine.specs.declared.events.Action.TheVariants.{LoadRoot, LoadSlotGroup}
use Rattle.index_machine.specs.declared.events.Action.TheVariants.{StoreHeader}
use Rattle.word_layout.specs.declared.headers.HeaderWord.TheVariants as header
use Rattle.index_machine.specs.declared.events.InstallWord.TheVariants.{FirstSlot}
use Rattle.index_machine.specs.declared.opening.Opening.{Opening}
use Rattle.index_machine.specs.Execution.{Execution, event}
use Rattle.word_layout.specs.Shape.{in_one_part}
use Rattle.index_machine.specs.Words.{shape}
use Rattle.word_layout.specs.Parts.{greatest_key}
use Rattle.index_machine.specs.Conditions.{Valid}

-- the limits of a small table
abbrev pub small_limits : Limits
small_limits =
    record {
      callers = 1;
      records = 2;
      groups = 2;
      group_size = 8;
      slots = 1;
      due = 1;
      help = 1;
      chain = 1;
      first_version = 0;
    }

-- a caller puts the key 5 with the value 7: it pops row 119, fills it and links it into group 0
abbrev pub with_a_record : Execution
with_a_record =
    event 0 (Leave 2)
    ∷ event 0 (LinkRow 0 0 119 (change.Put 0 5 7) 0 0)
    ∷ event 0 (StorePrivate 119 Link 0)
    ∷ event 0 (StorePrivate 119 Value 7)
    ∷ event 0 (StorePrivate 119 Key 5)
    ∷ event 0 (PopFree 119 123)
    ∷ event 0 (LoadFreeLink 119 123)
    ∷ event 0 (LoadFree 119)
    ∷ event 0 (LoadPhase 0 0)
    ∷ event 0 (LoadSlotGroup 0 0 0 0)
    ∷ event 0 (LoadRoot 0 2)
    ∷ event 0 (Enter 1)
    ∷ []

-- the keeper freezes group 0, begins group 1 with a lane from the key 0 on and one from 6 on, and
-- opens group 0 to it
abbrev pub opened_to_group_1 : Execution
opened_to_group_1 =
    event 1 (StoreOpened 0 1)
    ∷ event 1 (NewGroup 1 0 greatest_key 1)
    ∷ event 1 (StoreHeader 1 (header.Cut 1) 6)
    ∷ event 1 (StoreHeader 1 header.Lanes 2)
    ∷ event 1 (Freeze 0)
    ∷ with_a_record

-- a caller puts 8 at the key in the old group
abbrev pub changed_meanwhile : Execution
changed_meanwhile =
    event 0 (Leave 4)
    ∷ event 0 (Unlock 119 false (change.Put 0 5 8) 16)
    ∷ event 0 (StoreValue 119 8)
    ∷ event 0 (Lock 119 0)
    ∷ event 0 (LoadState 119 0)
    ∷ event 0 (LoadHead 0 0 119)
    ∷ event 0 (LoadPhase 0 6)
    ∷ event 0 (LoadSlotGroup 0 0 0 0)
    ∷ event 0 (LoadRoot 0 2)
    ∷ event 0 (Enter 3)
    ∷ opened_to_group_1

-- a caller puts the key 9 with the value 4: it comes by the opened group to the second lane of the
-- new one, and links row 123 there
abbrev pub linked_meanwhile : Execution
linked_meanwhile =
    event 0 (Leave 6)
    ∷ event 0 (LinkRow 1 1 123 (change.Put 0 9 4) 0 0)
    ∷ event 0 (StorePrivate 123 Link 0)
    ∷ event 0 (StorePrivate 123 Value 4)
    ∷ event 0 (StorePrivate 123 Key 9)
    ∷ event 0 (PopFree 123 0)
    ∷ event 0 (LoadFreeLink 123 0)
    ∷ event 0 (LoadFree 123)
    ∷ event 0 (LoadHead 1 1 0)
    ∷ event 0 (LoadHeader 1 (header.Cut 1) 6)
    ∷ event 0 (LoadHeader 1 header.Lanes 2)
    ∷ event 0 (LoadPhase 0 6)
    ∷ event 0 (LoadSlotGroup 0 0 0 0)
    ∷ event 0 (LoadRoot 0 2)
    ∷ event 0 (Enter 5)
    ∷ changed_meanwhile

-- the keeper merges, installs and copies, and gives row 119 back to the empty stack
abbrev pub rebuilt : Execution
rebuilt =
    event 1 (PushFree 119 0)
    ∷ event 1 (StorePrivate 119 Link 0)
    ∷ event 1 (Retire 119 0)
    ∷ event 1 (StoreMoved 119)
    ∷ event 1 (StoreDirect 87 119 5 false 0)
    ∷ event 1 (Copy 87 8)
    ∷ event 1 (Close 119 16)
    ∷ event 1 (Install (FirstSlot 0 0) 1 0 greatest_key)
    ∷ event 1 (StoreHeader 1 header.Size 1)
    ∷ event 1 (StoreRedirect 1 87 5 119)
    ∷ event 1 (StoreArray 1 87 Key 5)
    ∷ linked_meanwhile

-- a caller pops row 119 again
abbrev pub with_the_row_used_again : Execution
with_the_row_used_again =
    event 0 (Leave 8)
    ∷ event 0 (PopFree 119 0)
    ∷ event 0 (LoadFreeLink 119 0)
    ∷ event 0 (LoadFree 119)
    ∷ event 0 (Enter 7)
    ∷ rebuilt

-- the next rebuild begins in the row of group 0, whose header it writes first: a lane from the key 0
-- on, whose old head is cleared, and one from 9 on
abbrev pub whole_rebuild : Execution
whole_rebuild =
    event 1 (NewGroup 0 0 greatest_key 0)
    ∷ event 1 (StoreHeader 0 (header.Cut 1) 9)
    ∷ event 1 (StoreHeader 0 header.Lanes 2)
    ∷ event 1 (StoreHeader 0 (header.Head 0) 0)
    ∷ event 1 (StoreHeader 0 header.Phase 0)
    ∷ event 1 (Freeze 1)
    ∷ with_the_row_used_again

-- on some table with these limits, opened without rows, the whole rebuild is valid, so all
-- conditions can be met together
abbrev pub WholeRebuildIsValid : Type 0
WholeRebuildIsValid =
    (o : Opening) × (shape o ≡ in_one_part small_limits) × (o.rows ≡ []) × Valid o whole_rebuild
