-- The read sections: the epoch words count their crossings, which alternate.
use Rattle.std.specs.Prelude.{◌≡◌, ℕ, ◌%◌, ◌^◌, ◌∷◌}
use Rattle.word_layout.specs.Words.{Epoch}
use Rattle.index_machine.specs.declared.events.Action.TheVariants.{Enter, Leave}
use Rattle.index_machine.specs.declared.opening.Opening.{Opening}
use Rattle.index_machine.specs.Execution.{Execution, event}
use Rattle.index_machine.specs.Words.{word}
use Rattle.index_machine.specs.Sections.{IsCaller, IsInside, IsOutside, crossings}
use Rattle.index_machine.specs.Forms.{IsLockedBy}
use Rattle.index_machine.specs.Places.{form}
use Rattle.index_machine.specs.Conditions.{Valid}

-- an epoch word counts the crossings of its caller, so it is odd while the caller is inside, and
-- even while it is outside
pub record EpochsCount (o : Opening) (t : Execution) : Type 0 where
  pub count : (caller : ℕ) → IsCaller o caller →
      word o t (Epoch caller) ≡ crossings caller t % 2 ^ 64
  pub inside : (caller : ℕ) → IsCaller o caller → IsInside caller t →
      word o t (Epoch caller) % 2 ≡ 1
  pub outside : (caller : ℕ) → IsCaller o caller → IsOutside caller t →
      word o t (Epoch caller) % 2 ≡ 0

-- ---- the laws, over all executions ----

-- every epoch word counts its caller's crossings
abbrev pub EpochsCountCrossings : Type 0
EpochsCountCrossings = (o : Opening) (t : Execution) → Valid o t → EpochsCount o t

-- an entry leads inside, and an exit outside
abbrev pub ReadSectionsAlternate : Type 0
ReadSectionsAlternate =
    (o : Opening) (hand n : ℕ) (t : Execution) →
    (Valid o (event hand (Enter n) ∷ t) → IsInside hand (event hand (Enter n) ∷ t))
    × (Valid o (event hand (Leave n) ∷ t) → IsOutside hand (event hand (Leave n) ∷ t))

-- a caller that holds a version lock is inside
abbrev pub HoldersAreInside : Type 0
HoldersAreInside =
    (o : Opening) (t : Execution) → Valid o t → (caller : ℕ) → IsCaller o caller →
    (place : ℕ) → IsLockedBy caller (form o place t) → IsInside caller t
