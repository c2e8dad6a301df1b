-- Where a hand can read the array of a group, and where it can search it.
--
-- The fact to remember: where a caller stands in a group that answers for a key, or did before the key's last
-- install, the array stays, with the words for its size and for the error of its line.
use Rattle.std.specs.Prelude.{◌≡◌, ◌⊎◌, ℕ, ◌<◌, true, take, List}
use Rattle.word_layout.specs.Shape.{group_total}
use Rattle.index_machine.specs.declared.opening.Opening.{Opening}
use Rattle.index_machine.specs.Execution.{Execution}
use Rattle.index_machine.specs.Keepers.{IsGroupKeeper}
use Rattle.index_machine.specs.Reaching.{stands_in}
use Rattle.index_machine.specs.RebuildConditions.{IsSized}
use Rattle.index_machine.specs.Sections.{IsReading}
use Rattle.index_machine.specs.Words.{shape}
use Rattle.machine_arrays.specs.Arrays.{array_keys}
use Rattle.machine_chain.specs.Walks.{AnswersFor}
use Rattle.index_rule.specs.declared.board.Board.{Board}
use Rattle.index_rule.specs.declared.hand.Hand.{Hand}
use Rattle.index_rule.specs.Hands.{IsHandOf, known, opening_of}

-- the caller stands in the group, and this answers for a key, or did before the key's last install
pub record IsAnswered (o : Opening) (caller group : ℕ) (t : Execution) : Type 0 where
  pub reading : IsReading o caller t
  pub stands : stands_in caller group t ≡ true
  pub key : ℕ
  pub answers : AnswersFor o key group t

-- ---- reading ----

-- the keys of the group's array can be loaded, and stay while the hand does nothing but load: it is a caller's that
-- is answered there, or that of the keeper of the group's part
abbrev pub MayReadKeys : Opening → ℕ → ℕ → Execution → Type 0
MayReadKeys o hand group t = IsAnswered o hand group t ⊎ IsGroupKeeper o hand group

-- the hand of the board can read the keys of the array of this group of the table
pub record CanReadKeys (b : Board) (group : ℕ) (h : Hand) : Type 0 where
  pub of : IsHandOf b h
  pub in_table : group < group_total (shape (opening_of b))
  pub may : MayReadKeys (opening_of b) h.number group (known h)

-- the first of the keys of the group's array, so many
abbrev pub first_keys : ℕ → Opening → ℕ → Execution → List ℕ
first_keys len o group t = take len (array_keys o group t)

-- ---- searching ----

-- the array can be searched: the hand is a caller's that is answered there, or that of the keeper of the group's
-- part, and the words for the size and for the error of the line are those of the keys
abbrev pub MayLocate : Opening → ℕ → ℕ → Execution → Type 0
MayLocate o hand group t =
    IsAnswered o hand group t ⊎ (IsGroupKeeper o hand group × IsSized o group t)

-- the hand of the board can search the array of this group of the table
pub record CanLocate (b : Board) (group : ℕ) (h : Hand) : Type 0 where
  pub of : IsHandOf b h
  pub in_table : group < group_total (shape (opening_of b))
  pub may : MayLocate (opening_of b) h.number group (known h)
