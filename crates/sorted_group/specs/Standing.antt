-- What a hand can do with the buffer of a group, a caller's or that of its part's keeper, and which keys belong
-- there.
use Rattle.std.specs.Prelude.{◌≡◌, ◌⊎◌, ℕ, ◌<◌, true, Some}
use Rattle.index_machine.specs.declared.opening.Opening.{Opening}
use Rattle.index_machine.specs.Execution.{Execution}
use Rattle.index_machine.specs.KeyRanges.{successor}
use Rattle.index_machine.specs.Reaching.{stands_in}
use Rattle.index_machine.specs.RecordConditions.{MayWalk}
use Rattle.word_layout.specs.Shape.{group_total}
use Rattle.index_machine.specs.Words.{shape}
use Rattle.machine_buffers.specs.Groups.{IsKeyOf}
use Rattle.machine_buffers.specs.Walks.{IsWalkable}
use Rattle.index_rule.specs.declared.board.Board.{Board}
use Rattle.index_rule.specs.declared.hand.Hand.{Hand}
use Rattle.index_rule.specs.Calls.{CanCall}
use Rattle.index_rule.specs.Hands.{IsHandOf, known, opening_of}

-- the hand can follow the buffer's links and meets all its rows: it is a caller's that stands in the
-- group, or that of the keeper of the group's part, and a walk meets all rows of the buffer
pub record CanFollow (b : Board) (group : ℕ) (h : Hand) : Type 0 where
  pub of : IsHandOf b h
  pub may_walk : MayWalk (opening_of b) h.number group (known h)
  pub walkable : IsWalkable (opening_of b) group (known h)
  pub in_table : group < group_total (shape (opening_of b))

-- the caller stands in the group, where a walk meets all rows of the buffer
pub record CanSearch (b : Board) (group : ℕ) (h : Hand) : Type 0 where
  pub call : CanCall b h
  pub stands : stands_in h.number group (known h) ≡ true
  pub walkable : IsWalkable (opening_of b) group (known h)
  pub in_table : group < group_total (shape (opening_of b))

-- rows of the key belong, or belonged, into the buffer of the group: it is the key's, or is to be, or was
-- before the last install
abbrev pub IsOfBuffer : Opening → ℕ → ℕ → Execution → Type 0
IsOfBuffer o group k t = IsKeyOf o group k t ⊎ (successor k t ≡ Some group)
