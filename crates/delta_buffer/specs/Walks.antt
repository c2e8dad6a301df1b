-- The steps of a walk through a lane of a buffer: loads alone, of its head and of its rows' links and keys.
use Rattle.std.specs.Prelude.{◌≡◌, ℕ, zero, suc, List, [], ◌∷◌}
use Rattle.index_machine.specs.declared.events.Action.{Action}
use Rattle.index_machine.specs.declared.events.Action.TheVariants.{LoadHead, LoadKey, LoadLink}
use Rattle.index_machine.specs.Execution.{Continues, Execution, event}
use Rattle.index_rule.specs.declared.board.Board.{Board}
use Rattle.index_rule.specs.declared.hand.Hand.{Hand}
use Rattle.index_rule.specs.Hands.{Makes, MakesAll, known}

-- the load of the link behind the place, or of the lane's head for 0, which leads there
abbrev pub load_of_link : ℕ → ℕ → ℕ → ℕ → Action
load_of_link group lane zero next = LoadHead group lane next
load_of_link group lane (suc n) next = LoadLink group (suc n) next

-- the link behind the place was loaded, or the lane's head for 0, and led there
abbrev pub FollowsLink : Board → Hand → ℕ → ℕ → ℕ → ℕ → Hand → Type 0
FollowsLink b h group lane before next k = Makes b h (load_of_link group lane before next) k

-- the hand made this step in the call
abbrev pub MakesIn : Hand → Action → Hand → Type 0
MakesIn h action k =
    (earlier : Execution) × Continues (known h) earlier
    × Continues (event h.number action ∷ earlier) (known k)

-- the hand made this step in the call, and the execution ends with it
abbrev pub HasJustMade : Hand → Action → Execution → Type 0
HasJustMade h action t =
    (earlier : Execution) × Continues (known h) earlier × (event h.number action ∷ earlier ≡ t)

-- the action loads the head of the lane, a link in its buffer, or a key
abbrev pub IsWalkOf : ℕ → ℕ → Action → Type 0
IsWalkOf group lane (LoadHead g l next) = (g ≡ group) × (l ≡ lane)
IsWalkOf group lane (LoadLink g place next) = g ≡ group
IsWalkOf group lane (LoadKey place key) = Unit {0}
IsWalkOf group lane _ = ⊥

-- so does each of them
abbrev pub AreWalkOf : ℕ → ℕ → List Action → Type 0
AreWalkOf group lane [] = Unit {0}
AreWalkOf group lane (action ∷ actions) =
    IsWalkOf group lane action × AreWalkOf group lane actions

-- the hand made only such loads
abbrev pub Walks : Board → ℕ → ℕ → Hand → Hand → Type 0
Walks b group lane h k =
    (actions : List Action) × AreWalkOf group lane actions × MakesAll b h actions k
