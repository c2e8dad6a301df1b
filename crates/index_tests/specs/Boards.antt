-- What the tests say of their boards and hands.
--
-- The fact to remember: these boards have one part, which has one group at the opening.
use Rattle.std.specs.Prelude.{◌≡◌, ℕ, []}
use Rattle.map_model.specs.Map.{Map}
use Rattle.word_layout.specs.declared.limits.Limits.{Limits}
use Rattle.index_machine.specs.Conditions.{MayLeave}
use Rattle.index_machine.specs.OpeningRows.{opening_count}
use Rattle.index_machine.specs.Rows.{HoldsNone}
use Rattle.index_machine.specs.Sections.{IsOutside}
use Rattle.index_machine.specs.Words.{limits, shape}
use Rattle.machine_chain.specs.Walks.{AnswersFor}
use Rattle.index_rule.specs.declared.board.Board.{Board}
use Rattle.index_rule.specs.declared.hand.Hand.{Hand}
use Rattle.index_rule.specs.Hands.{IsHandOf, known, opening_of}
use Rattle.sorted_group.specs.Standing.{CanSearch}

-- the board has one part, which was opened with one group
pub record HasOneGroup (b : Board) : Type 0 where
  pub one_part : (shape (opening_of b)).bounds ≡ []
  pub one : opening_count (opening_of b) 0 ≡ 1

-- the board was opened with so many callers and groups, with one group in use, and with these rows
pub record IsNewBoard (l : Limits) (opened : Map) (b : Board) : Type 0 where
  pub callers : (limits (opening_of b)).callers ≡ l.callers
  pub groups : (limits (opening_of b)).groups ≡ l.groups
  pub one_group : HasOneGroup b
  pub rows : (opening_of b).rows ≡ opened

-- the hand with this number rests outside of any read section
pub record Rests (b : Board) (number : ℕ) (h : Hand) : Type 0 where
  pub of : IsHandOf b h
  pub numbered : h.number ≡ number
  pub outside : IsOutside h.number (known h)

-- the hand with this number rests, and holds no row
pub record RestsWithNoRow (b : Board) (number : ℕ) (h : Hand) : Type 0 where
  pub rests : Rests b number h
  pub none : HoldsNone (opening_of b) h.number (known h)

-- the caller with this number is inside its read section, and may leave it
pub record IsInside (b : Board) (number : ℕ) (h : Hand) : Type 0 where
  pub of : IsHandOf b h
  pub numbered : h.number ≡ number
  pub may_leave : MayLeave (opening_of b) h.number (known h)

-- the caller with this number came to the group of the key, or to that which was its group before the key's
-- last install
pub record IsInGroupOf (b : Board) (number group key : ℕ) (h : Hand) : Type 0 where
  pub numbered : h.number ≡ number
  pub search : CanSearch b group h
  pub answers : AnswersFor (opening_of b) key group (known h)

-- the one hand is of the board, and may do what the other might: both rest, or both may leave
pub record MayDoAs (b : Board) (h k : Hand) : Type 0 where
  pub of : IsHandOf b k
  pub rests : (number : ℕ) → Rests b number h → Rests b number k
  pub inside : (number : ℕ) → IsInside b number h → IsInside b number k
