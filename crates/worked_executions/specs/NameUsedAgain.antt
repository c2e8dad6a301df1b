-- A rebuild whose name is used again while another group of the old rebuild of this name is still
-- in the chain: that group is opened to the new one.
--
-- The table has one caller, which does nothing, a keeper, 1, and four groups. Group 0 is opened with
-- one lane. Groups 1 and 2 are begun with two lanes, group 3 with one, and group 1 anew with one.
use Rattle.std.specs.Prelude.{◌≡◌, [], ◌∷◌}
use Rattle.word_layout.specs.declared.limits.Limits.{Limits}
use Rattle.word_layout.specs.declared.headers.HeaderWord.TheVariants as header
use Rattle.index_machine.specs.declared.events.Action.TheVariants.{Freeze, NewGroup, StoreHeader}
use Rattle.index_machine.specs.declared.events.Action.TheVariants.{StoreOpened, Install}
use Rattle.index_machine.specs.declared.events.InstallWord.TheVariants.{FirstSlot}
use Rattle.index_machine.specs.declared.opening.Opening.{Opening}
use Rattle.index_machine.specs.Execution.{Execution, event}
use Rattle.word_layout.specs.Shape.{in_one_part}
use Rattle.index_machine.specs.Words.{shape}
use Rattle.word_layout.specs.Parts.{greatest_key}
use Rattle.index_machine.specs.Conditions.{Valid}

-- the limits of a table with four groups
abbrev pub four_groups : Limits
four_groups =
    record {
      callers = 1;
      records = 2;
      groups = 4;
      group_size = 8;
      slots = 1;
      due = 1;
      help = 1;
      chain = 1;
      first_version = 0;
    }

-- the rebuild named 1 makes two groups of group 0: their lanes begin at 0 and 3, and at 5 and 9
abbrev pub split_in_two : Execution
split_in_two =
    event 1 (Install (FirstSlot 0 0) 1 0 greatest_key)
    ∷ event 1 (StoreOpened 0 1)
    ∷ event 1 (NewGroup 2 5 greatest_key 1)
    ∷ event 1 (StoreHeader 2 (header.Cut 1) 9)
    ∷ event 1 (StoreHeader 2 (header.Cut 0) 5)
    ∷ event 1 (StoreHeader 2 header.Lanes 2)
    ∷ event 1 (NewGroup 1 0 4 1)
    ∷ event 1 (StoreHeader 1 (header.Cut 1) 3)
    ∷ event 1 (StoreHeader 1 header.Lanes 2)
    ∷ event 1 (StoreHeader 1 header.Next 3)
    ∷ event 1 (Freeze 0)
    ∷ []

-- the rebuild named 3 makes a group of group 1, whose row is free then
abbrev pub first_row_free : Execution
first_row_free =
    event 1 (Install (FirstSlot 0 0) 3 0 4)
    ∷ event 1 (StoreOpened 1 3)
    ∷ event 1 (NewGroup 3 0 4 3)
    ∷ event 1 (StoreHeader 3 header.Lanes 1)
    ∷ event 1 (StoreHeader 3 header.Next 3)
    ∷ event 1 (Freeze 1)
    ∷ split_in_two

-- another rebuild named 1 makes a group of group 2, and clears the cut of the lane that is there no
-- more
abbrev pub named_again : Execution
named_again =
    event 1 (StoreOpened 2 1)
    ∷ event 1 (NewGroup 1 5 greatest_key 1)
    ∷ event 1 (StoreHeader 1 (header.Cut 1) 0)
    ∷ event 1 (StoreHeader 1 (header.Cut 0) 5)
    ∷ event 1 (StoreHeader 1 header.Lanes 1)
    ∷ event 1 (StoreHeader 1 header.Next 0)
    ∷ event 1 (StoreHeader 1 header.Phase 0)
    ∷ event 1 (Freeze 2)
    ∷ first_row_free

-- on some table with these limits, opened without rows, this is valid
abbrev pub NamesAreUsedAgain : Type 0
NamesAreUsedAgain =
    (o : Opening) × (shape o ≡ in_one_part four_groups) × (o.rows ≡ []) × Valid o named_again
