-- What counting the rows of a buffer loads and tells.
use Rattle.std.specs.Prelude.{◌≡◌, ℕ, zero, suc, ◌+◌, ◌<◌, ◌≤◌, Option, Some, None, List, [], ◌∷◌}
use Rattle.std.specs.Prelude.{length}
use Rattle.map_model.specs.Map.{Map, look}
use Rattle.word_layout.specs.declared.headers.HeaderWord.TheVariants.{Lanes}
use Rattle.index_machine.specs.declared.events.Action.{Action}
use Rattle.index_machine.specs.declared.events.Action.TheVariants.{LoadHead, LoadHeader, LoadLink}
use Rattle.index_machine.specs.declared.opening.Opening.{Opening}
use Rattle.index_machine.specs.Execution.{Execution}
use Rattle.index_machine.specs.Lanes.{cut, lanes}
use Rattle.machine_readers.specs.Buffers.{rows}
use Rattle.index_rule.specs.declared.board.Board.{Board}
use Rattle.index_rule.specs.declared.hand.Hand.{Hand}
use Rattle.index_rule.specs.Hands.{MakesAll}

-- ---- loads ----

-- the action loads the number of the buffer's lanes, the head of one, or a link
abbrev pub IsLoadForCount : ℕ → Action → Type 0
IsLoadForCount group (LoadHeader g Lanes found) = g ≡ group
IsLoadForCount group (LoadHead g lane next) = g ≡ group
IsLoadForCount group (LoadLink g place next) = g ≡ group
IsLoadForCount group _ = ⊥

-- so does each of them
abbrev pub AreLoadsForCount : ℕ → List Action → Type 0
AreLoadsForCount group [] = Unit {0}
AreLoadsForCount group (action ∷ actions) =
    IsLoadForCount group action × AreLoadsForCount group actions

-- the hand made only such loads
abbrev pub LoadsForCount : Board → ℕ → Hand → Hand → Type 0
LoadsForCount b group h k =
    (actions : List Action) × AreLoadsForCount group actions × MakesAll b h actions k

-- ---- how many keys ----

-- one for a value, and none for none
abbrev pub one_if : Option ℕ → ℕ
one_if None = 0
one_if (Some q) = 1

-- how many keys of the map are below this one
unfoldable pub keys_below : ℕ → Map → ℕ
keys_below zero m = 0
keys_below (suc n) m = keys_below n m + one_if (look m n)

-- each row of the one is a row of the other
abbrev pub AllAmong : Map → Map → Type 0
AllAmong m u = (k q : ℕ) → look m k ≡ Some q → look u k ≡ Some q

-- ---- a lane ----

-- where the rows before the lane were so many, they are this many with those of the lane: not fewer than
-- stood there first, and not more than stand there later
pub record CountsLane (o : Opening) (group lane counted count : ℕ) (t later : Execution)
    : Type 0 where
  pub least : (m : Map) (end : ℕ) → AllAmong m (rows group t) →
      keys_below (cut o group lane t) m ≤ counted →
      (lane + 1 < lanes o group t → end ≤ cut o group (lane + 1) t) → keys_below end m ≤ count
  pub most : lane + 1 < lanes o group t →
      count ≤ keys_below (cut o group (lane + 1) t) (rows group later)
  pub all : count ≤ length (rows group later)
