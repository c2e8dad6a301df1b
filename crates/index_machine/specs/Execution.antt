-- Executions, and what is a function of a hand's own events.
use Rattle.std.specs.Prelude.{◌≡◌, ◌≢◌, ℕ, Bool, ◌==◌, List, [], ◌∷◌, ◌++◌}
use Rattle.index_machine.specs.declared.events.Action.{Action}
use Rattle.index_machine.specs.declared.events.Event.{Event}

-- all events so far, the newest first
abbrev pub Execution : Type 0
Execution = List Event

-- the event that the hand made this action
abbrev pub event : ℕ → Action → Event
event hand action = record { by = hand; action = action }

-- what a hand's own events alone change: the step is told whether the event is the hand's own
abbrev pub own : {A : Type 0} → (Bool → Action → A → A) → A → ℕ → Execution → A
own step first hand [] = first
own step first hand (e ∷ t) = step (e.by == hand) e.action (own step first hand t)

-- no event is the hand's
abbrev pub Without : ℕ → Execution → Type 0
Without hand [] = Unit {0}
Without hand (e ∷ t) = (e.by ≢ hand) × Without hand t

-- the later execution is the earlier one with newer events
abbrev pub Continues : Execution → Execution → Type 0
Continues earlier later = (newer : Execution) × (newer ++ earlier ≡ later)

-- the later execution is the earlier one with newer events of other hands alone
abbrev pub ContinuesWithout : ℕ → Execution → Execution → Type 0
ContinuesWithout hand earlier later =
    (newer : Execution) × (newer ++ earlier ≡ later) × Without hand newer
