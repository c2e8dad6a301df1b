-- What clauses read of a board and a hand, and what a call did.
use Rattle.std.specs.Prelude.{◌≡◌, ◌≢◌, ℕ, Some, List, [], ◌∷◌}
use Rattle.index_machine.specs.declared.events.Action.{Action}
use Rattle.index_machine.specs.declared.opening.Opening.{Opening}
use Rattle.index_machine.specs.Execution.{Execution}
use Rattle.index_rule.specs.declared.board.Board.{Board}
use Rattle.index_rule.specs.declared.hand.Hand.{Hand}
use Rattle.index_rule.specs.declared.view.View.{View}
use Rattle.index_rule.specs.declared.swap.Swap.{Swap}
use Rattle.index_rule.specs.declared.swap.Swap.TheVariants.{Done, Found}
use Rattle.index_rule.specs.Rule.{Acts}

-- what the hand's seat knows
abbrev pub view : Hand → View
view h = h.seat.me.0

-- the beginning of the execution that the hand knows
abbrev pub known : Hand → Execution
known h = (view h).known

-- what the board was opened with
abbrev pub opening_of : Board → Opening
opening_of b = b.words.shared.key

-- the hand is one of this board
pub record IsHandOf (b : Board) (h : Hand) : Type 0 where
  pub table : h.seat.table_id ≡ b.words.shared.table_id
  pub opened : (view h).opening ≡ Some (opening_of b)

-- the hand, still of this board and with its number, made just this action
pub record Makes (b : Board) (h : Hand) (action : Action) (k : Hand) : Type 0 where
  pub of : IsHandOf b k
  pub number : k.number ≡ h.number
  pub acts : Acts (view h) action (view k)

-- the exchange was made, or it found another word than the expected one
abbrev pub Exchanges : Board → Hand → ℕ → Action → (ℕ → Action) → Swap → Hand → Type 0
Exchanges b h expected made failed Done k = Makes b h made k
Exchanges b h expected made failed (Found found) k =
    Makes b h (failed found) k × (expected ≢ found)

-- the hand made just these actions, the newest first
abbrev pub MakesAll : Board → Hand → List Action → Hand → Type 0
MakesAll b h [] k = k ≡ h
MakesAll b h (action ∷ actions) k =
    (between : Hand) × MakesAll b h actions between × Makes b between action k
