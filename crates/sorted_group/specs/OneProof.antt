-- That a hand is of a board has one proof at most, so it can stand in a type.
use Rattle.std.proofs.Props.{props}
use base.Stored.{Coded-set}
use Rattle.atomic_table.specs.Seated.{TableId, table_id_coded}
use Rattle.index_machine.specs.declared.opening.Opening.{Opening}
use Rattle.index_machine.specs.contracts.opening.Opening.{the_row}
use Rattle.index_rule.specs.declared.board.Board.{Board}
use Rattle.index_rule.specs.declared.hand.Hand.{Hand}
use Rattle.index_rule.specs.Hands.{IsHandOf}

-- equations of openings have one
Opening-set : IsSet Opening
Opening-set = Coded-set the_row.coded

-- and equations of tables
TableId-set : IsSet TableId
TableId-set = Coded-set table_id_coded

-- so that a hand is of a board
pub IsHandOf-prop : (b : Board) (h : Hand) → IsProp (IsHandOf b h)
IsHandOf-prop b h = Prim.hlevel (props, Opening-set, TableId-set)
