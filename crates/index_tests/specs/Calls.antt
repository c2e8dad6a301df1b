-- What the tests say of a caller that is to call for a key.
use Rattle.std.specs.Prelude.{Option}
use Rattle.index_rule.specs.declared.board.Board.{Board}
use Rattle.index_rule.specs.declared.hand.Hand.{Hand}
use Rattle.index_rule.specs.declared.rows.PrivateRow.{PrivateRow}
use Rattle.index_rule.specs.Calls.{CanCall}
use Rattle.point_calls.specs.PointCalls.{HasSpare}

-- the hand may make a call, with this row of its own or none
pub record CanAsk (b : Board) (h : Hand) (spare : Option PrivateRow) : Type 0 where
  pub call : CanCall b h
  pub row : HasSpare b h spare
