-- The loads by which the lane of a key is chosen: of the number of lanes, and of cuts.
use Rattle.std.specs.Prelude.{◌≡◌, ℕ, ◌+◌, ◌≤◌, List, [], ◌∷◌, length}
use Rattle.word_layout.specs.declared.headers.HeaderWord.TheVariants.{Cut, Lanes}
use Rattle.index_machine.specs.declared.events.Action.{Action}
use Rattle.index_machine.specs.declared.events.Action.TheVariants.{LoadHeader}
use Rattle.index_rule.specs.declared.board.Board.{Board}
use Rattle.index_rule.specs.declared.hand.Hand.{Hand}
use Rattle.index_rule.specs.Hands.{MakesAll}

-- the action loads the cut of a lane of the group's buffer
abbrev pub IsCutLoad : ℕ → Action → Type 0
IsCutLoad group (LoadHeader g (Cut lane) found) = g ≡ group
IsCutLoad group _ = ⊥

-- each of these does; behind them, as the oldest, the number of the lanes was loaded
abbrev pub AreLaneLoads : ℕ → List Action → Type 0
AreLaneLoads group [] = ⊥
AreLaneLoads group (action ∷ []) = (found : ℕ) × (action ≡ LoadHeader group Lanes found)
AreLaneLoads group (action ∷ (next ∷ actions)) =
    IsCutLoad group action × AreLaneLoads group (next ∷ actions)

-- the hand loaded the number of the lanes, and then so many cuts at most
abbrev pub LoadsLanes : Board → ℕ → ℕ → Hand → Hand → Type 0
LoadsLanes b group most h k =
    (actions : List Action) × AreLaneLoads group actions × (length actions ≤ most + 1)
    × MakesAll b h actions k
