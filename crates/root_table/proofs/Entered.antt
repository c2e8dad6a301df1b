-- The group of a slot whose pivot is at most a key begins at or before the key.
use Rattle.std.proofs.Common.{◌≡◌, ℕ, ◌<◌, ◌≤◌, true, ◌++◌, arith}
use Rattle.word_layout.specs.Parts.{greatest_key}
use Rattle.word_layout.specs.Shape.{group_total}
use Rattle.index_machine.specs.declared.events.Action.{Action}
use Rattle.index_machine.specs.declared.events.Action.TheVariants.{LoadSlotGroup}
use Rattle.index_machine.specs.Keepers.{IsKeyIn}
use Rattle.index_machine.specs.Reaching.{stands_in}
use Rattle.index_machine.specs.Words.{shape}
use Rattle.machine_chain.proofs.SlotLoads.{seen_while}
use Rattle.machine_chain.proofs.Walking.{walks_begin}
use Rattle.machine_chain.specs.Walks.{BeginsBefore, slot_pivot}
use Rattle.index_rule.specs.declared.board.Board.{Board}
use Rattle.index_rule.specs.declared.hand.Hand.{Hand}
use Rattle.index_rule.specs.Hands.{Makes, known, opening_of}
use Rattle.index_rule.proofs.RecordStepping.{now, valid_moment}
use Rattle.index_rule.proofs.Stepping.{others_only, valid_after}
use Rattle.root_table.specs.declared.slots.Slots.{Slots}
use Rattle.root_table.specs.Slots.{IsLastSlot, SeesSlots}
use Rattle.root_table.specs.Standing.{IsBehindKey}
use Rattle.root_table.proofs.SlotChoice.{keeps_root, sees_slot}
use Rattle.root_table.proofs.Steps.{call_on}
use Rattle.root_table.proofs.Walked.{behind_exists}

module _ (b : Board) (slots : Slots) (key slot group : ℕ) (h k : Hand) (sees : SeesSlots b slots h)
    (is : IsKeyIn (opening_of b) slots.part key)
    (last : IsLastSlot (opening_of b) slots key slot (known h))
    (m : Makes b h (LoadSlotGroup slots.part slots.side slot group) k) where
  abbrev load : Action
  load = LoadSlotGroup slots.part slots.side slot group

  -- at the moment of the load the pivot is still at most the key
  begins_still : slot_pivot (opening_of b) slots.part slots.side slot (m.acts.0 ++ known h) ≤ key
  begins_still =
      let stays = (seen_while (opening_of b) h.number slots.part slots.side slot sees.call.reading.caller m.acts.0
      (known h) (valid_moment b h k load sees.call.of m)
      (keeps_root h.number m.acts.0 (others_only b h k load sees.call.of m))
      (sees_slot b slots h sees slot last.is_slot)).1 in
      let begins = last.begins in
      omega (arith, stays, begins)

  pub enters_behind : IsBehindKey b group key k
  enters_behind =
      let begun = walks_begin (opening_of b) h.number slots.part slots.side slot group key
      sees.call.reading.caller sees.is_part is (m.acts.0 ++ known h)
      (valid_after b h k load sees.call.of m) begins_still in
      record {
        call = call_on b h k load tt (λ z. z) m sees.call;
        stands = now b h k load sees.call.of m (λ c t. stands_in c group t ≡ true) begun.1;
        begins = now b h k load sees.call.of m (λ c t. BeginsBefore (opening_of b) key group t) begun.0;
      }

  -- and it is a group of the table
  pub enters_table : key ≤ greatest_key → group < group_total (shape (opening_of b))
  enters_table most = behind_exists b group key k most enters_behind
