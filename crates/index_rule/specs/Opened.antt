-- The board as it is opened.
use Rattle.std.specs.Prelude.{◌≡◌, ℕ, ◌+◌, List, [], ◌∷◌, length}
use Rattle.word_layout.specs.Shape.{parts_in}
use Rattle.index_machine.specs.Words.{limits, shape}
use Rattle.index_rule.specs.declared.board.Board.{Board}
use Rattle.index_rule.specs.declared.hand.Hand.{Hand}
use Rattle.index_rule.specs.Hands.{IsHandOf, known, opening_of, view}
use Rattle.index_rule.specs.Seats.{new_hand}

-- hands of the board that made no step yet, with rising numbers from this one on
abbrev pub AreNewHands : Board → ℕ → List Hand → Type 0
AreNewHands b number [] = Unit {0}
AreNewHands b number (h ∷ hs) =
    IsHandOf b h × (h.number ≡ number) × (view h ≡ new_hand (opening_of b) number)
    × AreNewHands b (number + 1) hs

-- a hand for each caller, and behind them one for the keeper of each part
pub record HasNewHands (b : Board) (hands : List Hand) : Type 0 where
  pub many : length hands ≡ (limits (opening_of b)).callers + parts_in (shape (opening_of b))
  pub new : AreNewHands b 0 hands

-- the hand with this number, before its first step
pub record IsNew (b : Board) (number : ℕ) (h : Hand) : Type 0 where
  pub of : IsHandOf b h
  pub numbered : h.number ≡ number
  pub first : known h ≡ []
