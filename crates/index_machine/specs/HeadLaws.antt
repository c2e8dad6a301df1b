-- The observed heads: what is known of a row while a caller observes it, and when none does.
use Rattle.std.specs.Prelude.{◌≡◌, ◌≢◌, ℕ, [], ◌∷◌, ◌++◌}
use Rattle.word_layout.specs.declared.places.Part.TheVariants.{Link}
use Rattle.word_layout.specs.Places.{IsRow}
use Rattle.word_layout.specs.Words.{PlaceWord}
use Rattle.index_machine.specs.declared.events.Action.{Action}
use Rattle.index_machine.specs.declared.events.Action.TheVariants.{PushFree}
use Rattle.index_machine.specs.declared.opening.Opening.{Opening}
use Rattle.index_machine.specs.Execution.{Execution}
use Rattle.index_machine.specs.Words.{shape, word}
use Rattle.index_machine.specs.Sections.{IsCaller, IsInside, HasLeft}
use Rattle.index_machine.specs.Rows.{Unused, role}
use Rattle.index_machine.specs.ObservedHeads.{HeadAndLink, observed_head, Observes}
use Rattle.index_machine.specs.Conditions.{Valid}

-- what is known of a row that a caller observes
pub record HeadsHold (o : Opening) (t : Execution) : Type 0 where
  -- only who is inside observes a head
  pub inside : (caller place : ℕ) → IsCaller o caller → Observes caller place t →
      IsInside caller t
  pub row : (caller place : ℕ) → IsCaller o caller → Observes caller place t →
      IsRow (shape o) place
  -- while the row is free, its link is the one that was loaded
  pub link : (caller place n : ℕ) → IsCaller o caller →
      observed_head caller t ≡ HeadAndLink place n → role o place t ≡ Unused →
      word o t (PlaceWord place Link) ≡ n

-- the action does not push this row
abbrev pub IsNoPushOf : ℕ → Action → Type 0
IsNoPushOf place (PushFree pushed head) = pushed ≢ place
IsNoPushOf place _ = Unit {0}

-- no event pushes this row
abbrev pub IsNotPushed : ℕ → Execution → Type 0
IsNotPushed place [] = Unit {0}
IsNotPushed place (e ∷ t) = IsNoPushOf place e.action × IsNotPushed place t

-- ---- the laws, over all executions ----

-- what a caller observes stays true until it leaves
abbrev pub ObservedHeadsHold : Type 0
ObservedHeadsHold = (o : Opening) (t : Execution) → Valid o t → HeadsHold o t

-- a caller that was outside when a grace period began, or has left since, observes no row that was
-- in no stack when it began and was not given back since
abbrev pub GracePeriodEndsObservedHeads : Type 0
GracePeriodEndsObservedHeads =
    (o : Opening) (caller place : ℕ) (newer t : Execution) → Valid o (newer ++ t) →
    IsCaller o caller → role o place t ≢ Unused → IsNotPushed place newer →
    HasLeft caller t (newer ++ t) → Observes caller place (newer ++ t) → ⊥
