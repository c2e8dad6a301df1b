-- A small table, and the events of a whole rebuild on it one by one.
use Rattle.std.proofs.Common.{false, [], ◌∷◌, refl, arith}
use Rattle.index_machine.specs.Execution.{Execution, event}
use Rattle.word_layout.specs.Parts.{greatest_key}
use Rattle.index_machine.specs.declared.events.Action.TheVariants.{Close, Copy, Enter, Freeze}
use Rattle.index_machine.specs.declared.events.Action.TheVariants.{Install, Leave, LinkRow}
use Rattle.index_machine.specs.declared.events.Action.TheVariants.{LoadFree, LoadFreeLink, LoadHead}
use Rattle.index_machine.specs.declared.events.Action.TheVariants.{LoadHeader, LoadPhase, LoadRoot}
use Rattle.index_machine.specs.declared.events.Action.TheVariants.{LoadSlotGroup, LoadState, Lock}
use Rattle.index_machine.specs.declared.events.Action.TheVariants.{NewGroup, PopFree, PushFree}
use Rattle.index_machine.specs.declared.events.Action.TheVariants.{Retire, StoreArray, StoreDirect}
use Rattle.index_machine.specs.declared.events.Action.TheVariants.{StoreHeader, StoreMoved}
use Rattle.index_machine.specs.declared.events.Action.TheVariants.{StoreOpened, StorePrivate}
use Rattle.index_machine.specs.declared.events.Action.TheVariants.{StoreRedirect, StoreValue}
use Rattle.index_machine.specs.declared.events.Action.TheVariants.{Unlock}
use Rattle.index_machine.specs.declared.events.InstallWord.TheVariants.{FirstSlot}
use Rattle.index_machine.specs.declared.opening.Opening.{Opening}
use Rattle.worked_executions.proofs.OnePart.{one_part_cut}
use Rattle.worked_executions.specs.Witness.{small_limits}
use Rattle.word_layout.specs.declared.layout.Layout.{Layout}
use Rattle.word_layout.specs.declared.limits.Limits.{Limits}
use Rattle.word_layout.specs.declared.headers.HeaderWord.TheVariants as header
use Rattle.word_layout.specs.declared.places.Part.TheVariants.{Key, Value, Link}
use Rattle.map_model.specs.declared.entries.Change.TheVariants as change

-- ---- the table ----

abbrev pub l : Limits
l = small_limits

abbrev pub small_layout : Layout
small_layout =
    record {
      limits = l;
      parts = [];
      group_words = 56;
      slots_from = 3;
      groups_from = 7;
      rows_from = 119;
      kept = record {
        least_callers = omega arith;
        most_callers = omega arith;
        least_records = omega arith;
        most_records = omega arith;
        least_groups = omega arith;
        most_groups = omega arith;
        least_group_size = omega arith;
        most_group_size = omega arith;
        least_slots = omega arith;
        most_slots = omega arith;
        least_due = omega arith;
        most_due = omega arith;
        least_help = omega arith;
        most_help = omega arith;
        least_chain = omega arith;
        most_chain = omega arith;
        most_first_version = omega arith;
        most_words = omega arith;
      };
      cut = one_part_cut;
      group_width = refl;
      slots_behind_epochs = refl;
      groups_behind_slots = refl;
      rows_behind_groups = refl;
    }

abbrev pub o : Opening
o =
    record {
      layout = small_layout;
      rows = [];
      rising = tt;
      fits = λ part is_part. omega arith;
      keys = tt;
    }

-- ---- the execution, event by event ----

abbrev pub put_1 : Execution
put_1 = event 0 (Enter 1) ∷ []

abbrev pub put_2 : Execution
put_2 = event 0 (LoadRoot 0 2) ∷ put_1

abbrev pub put_3 : Execution
put_3 = event 0 (LoadSlotGroup 0 0 0 0) ∷ put_2

abbrev pub put_4 : Execution
put_4 = event 0 (LoadPhase 0 0) ∷ put_3

abbrev pub put_5 : Execution
put_5 = event 0 (LoadFree 119) ∷ put_4

abbrev pub put_6 : Execution
put_6 = event 0 (LoadFreeLink 119 123) ∷ put_5

abbrev pub put_7 : Execution
put_7 = event 0 (PopFree 119 123) ∷ put_6

abbrev pub put_8 : Execution
put_8 = event 0 (StorePrivate 119 Key 5) ∷ put_7

abbrev pub put_9 : Execution
put_9 = event 0 (StorePrivate 119 Value 7) ∷ put_8

abbrev pub put_10 : Execution
put_10 = event 0 (StorePrivate 119 Link 0) ∷ put_9

abbrev pub put_11 : Execution
put_11 = event 0 (LinkRow 0 0 119 (change.Put 0 5 7) 0 0) ∷ put_10

abbrev pub put_12 : Execution
put_12 = event 0 (Leave 2) ∷ put_11

abbrev pub opened_1 : Execution
opened_1 = event 1 (Freeze 0) ∷ put_12

abbrev pub opened_2 : Execution
opened_2 = event 1 (StoreHeader 1 header.Lanes 2) ∷ opened_1

abbrev pub opened_3 : Execution
opened_3 = event 1 (StoreHeader 1 (header.Cut 1) 6) ∷ opened_2

abbrev pub opened_4 : Execution
opened_4 = event 1 (NewGroup 1 0 greatest_key 1) ∷ opened_3

abbrev pub opened_5 : Execution
opened_5 = event 1 (StoreOpened 0 1) ∷ opened_4

abbrev pub changed_1 : Execution
changed_1 = event 0 (Enter 3) ∷ opened_5

abbrev pub changed_2 : Execution
changed_2 = event 0 (LoadRoot 0 2) ∷ changed_1

abbrev pub changed_3 : Execution
changed_3 = event 0 (LoadSlotGroup 0 0 0 0) ∷ changed_2

abbrev pub changed_4 : Execution
changed_4 = event 0 (LoadPhase 0 6) ∷ changed_3

abbrev pub changed_5 : Execution
changed_5 = event 0 (LoadHead 0 0 119) ∷ changed_4

abbrev pub changed_6 : Execution
changed_6 = event 0 (LoadState 119 0) ∷ changed_5

abbrev pub changed_7 : Execution
changed_7 = event 0 (Lock 119 0) ∷ changed_6

abbrev pub changed_8 : Execution
changed_8 = event 0 (StoreValue 119 8) ∷ changed_7

abbrev pub changed_9 : Execution
changed_9 = event 0 (Unlock 119 false (change.Put 0 5 8) 16) ∷ changed_8

abbrev pub changed_10 : Execution
changed_10 = event 0 (Leave 4) ∷ changed_9

abbrev pub linked_1 : Execution
linked_1 = event 0 (Enter 5) ∷ changed_10

abbrev pub linked_2 : Execution
linked_2 = event 0 (LoadRoot 0 2) ∷ linked_1

abbrev pub linked_3 : Execution
linked_3 = event 0 (LoadSlotGroup 0 0 0 0) ∷ linked_2

abbrev pub linked_4 : Execution
linked_4 = event 0 (LoadPhase 0 6) ∷ linked_3

abbrev pub linked_5 : Execution
linked_5 = event 0 (LoadHeader 1 header.Lanes 2) ∷ linked_4

abbrev pub linked_6 : Execution
linked_6 = event 0 (LoadHeader 1 (header.Cut 1) 6) ∷ linked_5

abbrev pub linked_7 : Execution
linked_7 = event 0 (LoadHead 1 1 0) ∷ linked_6

abbrev pub linked_8 : Execution
linked_8 = event 0 (LoadFree 123) ∷ linked_7

abbrev pub linked_9 : Execution
linked_9 = event 0 (LoadFreeLink 123 0) ∷ linked_8

abbrev pub linked_10 : Execution
linked_10 = event 0 (PopFree 123 0) ∷ linked_9

abbrev pub linked_11 : Execution
linked_11 = event 0 (StorePrivate 123 Key 9) ∷ linked_10

abbrev pub linked_12 : Execution
linked_12 = event 0 (StorePrivate 123 Value 4) ∷ linked_11

abbrev pub linked_13 : Execution
linked_13 = event 0 (StorePrivate 123 Link 0) ∷ linked_12

abbrev pub linked_14 : Execution
linked_14 = event 0 (LinkRow 1 1 123 (change.Put 0 9 4) 0 0) ∷ linked_13

abbrev pub linked_15 : Execution
linked_15 = event 0 (Leave 6) ∷ linked_14

abbrev pub merged_1 : Execution
merged_1 = event 1 (StoreArray 1 87 Key 5) ∷ linked_15

abbrev pub merged_2 : Execution
merged_2 = event 1 (StoreRedirect 1 87 5 119) ∷ merged_1

abbrev pub merged_3 : Execution
merged_3 = event 1 (StoreHeader 1 header.Size 1) ∷ merged_2

abbrev pub rebuilt_1 : Execution
rebuilt_1 = event 1 (Install (FirstSlot 0 0) 1 0 greatest_key) ∷ merged_3

abbrev pub rebuilt_2 : Execution
rebuilt_2 = event 1 (Close 119 16) ∷ rebuilt_1

abbrev pub rebuilt_3 : Execution
rebuilt_3 = event 1 (Copy 87 8) ∷ rebuilt_2

abbrev pub rebuilt_4 : Execution
rebuilt_4 = event 1 (StoreDirect 87 119 5 false 0) ∷ rebuilt_3

abbrev pub rebuilt_5 : Execution
rebuilt_5 = event 1 (StoreMoved 119) ∷ rebuilt_4

abbrev pub rebuilt_6 : Execution
rebuilt_6 = event 1 (Retire 119 0) ∷ rebuilt_5

abbrev pub rebuilt_7 : Execution
rebuilt_7 = event 1 (StorePrivate 119 Link 0) ∷ rebuilt_6

abbrev pub rebuilt_8 : Execution
rebuilt_8 = event 1 (PushFree 119 0) ∷ rebuilt_7

abbrev pub popped_1 : Execution
popped_1 = event 0 (Enter 7) ∷ rebuilt_8

abbrev pub popped_2 : Execution
popped_2 = event 0 (LoadFree 119) ∷ popped_1

abbrev pub popped_3 : Execution
popped_3 = event 0 (LoadFreeLink 119 0) ∷ popped_2

abbrev pub popped_4 : Execution
popped_4 = event 0 (PopFree 119 0) ∷ popped_3

abbrev pub popped_5 : Execution
popped_5 = event 0 (Leave 8) ∷ popped_4

abbrev pub again_1 : Execution
again_1 = event 1 (Freeze 1) ∷ popped_5

abbrev pub again_2 : Execution
again_2 = event 1 (StoreHeader 0 header.Phase 0) ∷ again_1

abbrev pub again_3 : Execution
again_3 = event 1 (StoreHeader 0 (header.Head 0) 0) ∷ again_2

abbrev pub again_4 : Execution
again_4 = event 1 (StoreHeader 0 header.Lanes 2) ∷ again_3

abbrev pub again_5 : Execution
again_5 = event 1 (StoreHeader 0 (header.Cut 1) 9) ∷ again_4
