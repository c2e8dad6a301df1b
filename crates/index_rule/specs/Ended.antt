-- The board when it is closed.
use Rattle.std.specs.Prelude.{◌≡◌, ◌⊎◌, ℕ, List, [], ◌∷◌}
use Rattle.index_machine.specs.declared.opening.Opening.{Opening}
use Rattle.index_machine.specs.Execution.{Execution, ContinuesWithout}
use Rattle.index_machine.specs.Lists.{In}
use Rattle.index_machine.specs.Sections.{IsHand, IsOutside}
use Rattle.index_machine.specs.Conditions.{Valid}
use Rattle.index_rule.specs.declared.board.Board.{Board}
use Rattle.index_rule.specs.declared.hand.Hand.{Hand}
use Rattle.index_rule.specs.declared.view.View.{View}
use Rattle.index_rule.specs.declared.view.Heard.{Heard}
use Rattle.index_rule.specs.Hands.{IsHandOf, opening_of, known, view}
use Rattle.opened_table.specs.Laying.{StandsFor}
use Rattle.index_rule.specs.Offsets.{HoldsWords}
use Rattle.index_rule.specs.Rule.{Owns}
use Rattle.index_rule.specs.Seats.{heard_of}

-- the numbers of the hands
abbrev pub numbers_of : List Hand → List ℕ
numbers_of [] = []
numbers_of (h ∷ hs) = h.number ∷ numbers_of hs

-- hands of this board, outside of any read section
abbrev pub AreOutside : Board → List Hand → Type 0
AreOutside b [] = Unit {0}
AreOutside b (h ∷ hs) = IsHandOf b h × IsOutside h.number (known h) × AreOutside b hs

-- all hands of the board, in any order
pub record AreAllHands (b : Board) (hands : List Hand) : Type 0 where
  pub outside : AreOutside b hands
  pub each : (number : ℕ) → IsHand (opening_of b) number → In number (numbers_of hands)

-- the execution has just the events of each hand that the hand knew
abbrev pub EndsFor : List Hand → Execution → Type 0
EndsFor [] t = Unit {0}
EndsFor (h ∷ hs) t = ContinuesWithout h.number (known h) t × EndsFor hs t

-- the words are those that one whole execution leaves
pub record Leaves (o : Opening) (hands : List Hand) (words : List ℕ) : Type 0 where
  pub execution : Execution
  pub valid : Valid o execution
  pub ends : EndsFor hands execution
  pub left : StandsFor o words execution

-- likewise, where the words stand in memory
pub record LeavesInMemory (o : Opening) (hands : List Hand) (memory : List ℕ) : Type 0 where
  pub execution : Execution
  pub valid : Valid o execution
  pub ends : EndsFor hands execution
  pub held : HoldsWords o memory execution

-- ---- hands that are joined one by one ----

-- hands of this board
abbrev pub AreOf : Board → List Hand → Type 0
AreOf b [] = Unit {0}
AreOf b (h ∷ hs) = IsHandOf b h × AreOf b hs

-- this was heard
abbrev pub IsHeard : Heard → List Heard → Type 0
IsHeard x [] = ⊥
IsHeard x (y ∷ ys) = (x ≡ y) ⊎ IsHeard x ys

-- the seat is this hand among others: it is still as it was, or has heard what the hand knew
pub record Includes (v : View) (h : Hand) : Type 0 where
  pub owns : Owns v h.number
  pub told : (view h ≡ v) ⊎ IsHeard (heard_of (view h)) v.heard

-- the seat is all these hands
abbrev pub IncludesAll : View → List Hand → Type 0
IncludesAll v [] = Unit {0}
IncludesAll v (h ∷ hs) = Includes v h × IncludesAll v hs
