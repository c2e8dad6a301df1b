-- Where a call stands: what its hand may rely on, and what the call has done so far.
use Rattle.std.specs.Prelude.{◌≡◌}
use Rattle.index_machine.specs.RecordConditions.{HoldsNoLock}
use Rattle.index_machine.specs.Sections.{IsReading}
use Rattle.index_rule.specs.declared.board.Board.{Board}
use Rattle.index_rule.specs.declared.hand.Hand.{Hand}
use Rattle.index_rule.specs.Hands.{IsHandOf, known, opening_of}
use Rattle.index_rule.specs.Moments.{AddsNoEntry, IsWithin}

-- the hand is of the board, inside its read section, and holds no version lock
pub record CanCall (b : Board) (h : Hand) : Type 0 where
  pub of : IsHandOf b h
  pub reading : IsReading (opening_of b) h.number (known h)
  pub holds_none : HoldsNoLock (opening_of b) h.number (known h)

-- the hand of the call that began so has made a step since, and has added no entry
pub record HasAddedNone (b : Board) (start h : Hand) : Type 0 where
  pub began : IsHandOf b start
  pub number : h.number ≡ start.number
  pub within : IsWithin start h (known h)
  pub no_entry : AddsNoEntry start h
