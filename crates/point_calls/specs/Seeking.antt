-- What a call knows on its way through the groups of a key.
use Rattle.std.specs.Prelude.{◌≡◌, ℕ}
use Rattle.index_machine.specs.Execution.{Continues}
use Rattle.index_rule.specs.declared.board.Board.{Board}
use Rattle.index_rule.specs.declared.hand.Hand.{Hand}
use Rattle.index_rule.specs.Calls.{CanCall}
use Rattle.index_rule.specs.Hands.{known}
use Rattle.point_calls.specs.Exchanges.{MakesFewExchanges, no_exchange}
use Rattle.point_calls.specs.Places.{LacksInArray}

-- the call begins here
pub record SeeksAsOf (b : Board) (start h : Hand) : Type 0 where
  pub call : CanCall b h
  pub begins : start ≡ h

-- the call goes on from the array of its group, where no place has a value for the key; it tried no exchange
pub record PassesArray (b : Board) (start h : Hand) (group key : ℕ) (k : Hand) : Type 0 where
  pub lacks : LacksInArray b start k group key
  pub since : Continues (known h) (known k)
  pub exchanges : MakesFewExchanges no_exchange h k
