-- Read sections: a caller is inside between an entry and the exit that follows it.
use Rattle.std.specs.Prelude.{◌≡◌, ℕ, ◌+◌, ◌%◌, ◌<◌, Bool, cond, [], ◌∷◌}
use Rattle.index_machine.specs.declared.events.Action.{Action}
use Rattle.index_machine.specs.declared.events.Action.TheVariants.{Enter, Leave}
use Rattle.index_machine.specs.declared.opening.Opening.{Opening}
use Rattle.index_machine.specs.Execution.{Execution, own}
use Rattle.word_layout.specs.Shape.{parts_in}
use Rattle.index_machine.specs.Words.{limits, shape}

-- ---- hands ----

-- the number of a caller's hand
abbrev pub IsCaller : Opening → ℕ → Type 0
IsCaller o hand = hand < (limits o).callers

-- the number of a hand: a caller's, or the keeper's of a part
abbrev pub IsHand : Opening → ℕ → Type 0
IsHand o hand = hand < (limits o).callers + parts_in (shape o)

-- ---- inside and outside ----

-- the count of crossings after an action: an entry and an exit each cross the border of a read
-- section
abbrev pub crossings_after : Bool → Action → ℕ → ℕ
crossings_after mine (Enter n) count = cond mine (count + 1) count
crossings_after mine (Leave n) count = cond mine (count + 1) count
crossings_after mine _ count = count

-- how often the hand entered and left
abbrev pub crossings : ℕ → Execution → ℕ
crossings hand t = own crossings_after 0 hand t

-- the hand is inside a read section
abbrev pub IsInside : ℕ → Execution → Type 0
IsInside hand t = crossings hand t % 2 ≡ 1

-- the hand is in no read section
abbrev pub IsOutside : ℕ → Execution → Type 0
IsOutside hand t = crossings hand t % 2 ≡ 0

-- the hand was outside at the earlier execution, or has left that read section since
abbrev pub HasLeft : ℕ → Execution → Execution → Type 0
HasLeft hand earlier later = IsInside hand earlier → crossings hand earlier < crossings hand later

-- the grace period is over: each caller that was inside at the earlier execution has left since
abbrev pub IsQuiescent : Opening → Execution → Execution → Type 0
IsQuiescent o earlier later = (caller : ℕ) → IsCaller o caller → HasLeft caller earlier later

-- the action is no entry and no exit
abbrev pub IsNoCrossing : Action → Type 0
IsNoCrossing (Enter n) = ⊥
IsNoCrossing (Leave n) = ⊥
IsNoCrossing _ = Unit {0}

-- the hand's read section goes on over these newer events
abbrev pub StaysInside : ℕ → Execution → Type 0
StaysInside hand [] = Unit {0}
StaysInside hand (e ∷ newer) = (e.by ≡ hand → IsNoCrossing e.action) × StaysInside hand newer

-- the hand works inside a read section
pub record IsReading (o : Opening) (hand : ℕ) (t : Execution) : Type 0 where
  pub caller : IsCaller o hand
  pub inside : IsInside hand t
