-- The slots of a part's root that a caller may read, and which of them leads to a key.
use Rattle.std.specs.Prelude.{◌≡◌, ℕ, ◌<◌, ◌≤◌, Some}
use Rattle.word_layout.specs.Root.{word_of_root}
use Rattle.index_machine.specs.declared.opening.Opening.{Opening}
use Rattle.index_machine.specs.Execution.{Execution}
use Rattle.index_machine.specs.Keepers.{IsPart}
use Rattle.index_machine.specs.Reaching.{root_seen}
use Rattle.machine_chain.specs.Walks.{slot_pivot}
use Rattle.index_rule.specs.declared.board.Board.{Board}
use Rattle.index_rule.specs.declared.hand.Hand.{Hand}
use Rattle.index_rule.specs.Calls.{CanCall}
use Rattle.index_rule.specs.Hands.{known, opening_of}
use Rattle.root_table.specs.declared.slots.Slots.{Slots}

-- the root word that names these slots
abbrev pub root_word_of : Slots → ℕ
root_word_of slots = word_of_root slots.count slots.side

-- the caller can call, and may read these slots: it loaded their root word last
pub record SeesSlots (b : Board) (slots : Slots) (h : Hand) : Type 0 where
  pub call : CanCall b h
  pub is_part : IsPart (opening_of b) slots.part
  pub is_side : slots.side < 2
  pub some : 1 ≤ slots.count
  pub seen : root_seen h.number slots.part (known h) ≡ Some (root_word_of slots)

-- the slot is the last of these whose pivot is at most the key
pub record IsLastSlot (o : Opening) (slots : Slots) (key slot : ℕ) (t : Execution) : Type 0 where
  pub is_slot : slot < slots.count
  pub begins : slot_pivot o slots.part slots.side slot t ≤ key
  pub last : (i : ℕ) → slot < i → i < slots.count → key < slot_pivot o slots.part slots.side i t
