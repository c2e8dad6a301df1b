-- The moments of a call, and the entries that it added to its hand's log.
use Rattle.std.specs.Prelude.{◌≡◌, ℕ, ◌≤◌, Option, ◌∷◌, ◌++◌, length}
use Rattle.map_model.specs.declared.entries.Change.{Change}
use Rattle.map_model.specs.declared.entries.Entry.TheVariants.{Made}
use Rattle.index_machine.specs.declared.events.Action.{Action}
use Rattle.index_machine.specs.Execution.{Execution, event, Without, Continues}
use Rattle.index_machine.specs.LivePlaces.{history, value_in_map}
use Rattle.map_model.specs.Map.{key_of}
use Rattle.index_rule.specs.declared.board.Board.{Board}
use Rattle.index_rule.specs.declared.hand.Hand.{Hand}
use Rattle.index_rule.specs.Hands.{known, opening_of, view}

-- the execution at a moment between what a hand knew first and later: what others did before the hand's
-- own first step in between has been done by then
abbrev pub IsBetween : ℕ → Execution → Execution → Execution → Type 0
IsBetween hand earlier later moment =
    (first : Action) × (newer : Execution) × Without hand newer
    × Continues (event hand first ∷ newer ++ earlier) later
    × Continues (newer ++ earlier) moment × Continues moment later

-- the execution at a moment of the call that the hand made
abbrev pub IsWithin : Hand → Hand → Execution → Type 0
IsWithin h k moment = IsBetween h.number (known h) (known k) moment

-- the call added no entry
abbrev pub AddsNoEntry : Hand → Hand → Type 0
AddsNoEntry h k = (view k).log ≡ (view h).log

-- the call added one entry, that of a change made at a moment of the call, just before which its key
-- had this value, or none
abbrev pub AddsChange : Board → Hand → Change → Option ℕ → Hand → Type 0
AddsChange b h change old k =
    (moment : Execution) × IsWithin h k moment
    × (value_in_map (opening_of b) (key_of change) moment ≡ old)
    × ((view k).log ≡ Made (length (history moment)) change old ∷ (view h).log)

-- ---- the law ----

-- a moment of a call stands behind all changes that its hand had seen, behind all that others had made
-- before its first step, and behind none that it does not know at the end
abbrev pub MomentsLieWithin : Type 0
MomentsLieWithin =
    (hand : ℕ) (earlier later moment : Execution) → IsBetween hand earlier later moment →
    (length (history earlier) ≤ length (history moment))
    × ((first : Action) (newer : Execution) → Without hand newer →
    Continues (event hand first ∷ newer ++ earlier) later →
    length (history (newer ++ earlier)) ≤ length (history moment))
    × (length (history moment) ≤ length (history later))
