-- The record rows: whose each one is, the free stack through the words, and what links name.
use Rattle.std.specs.Prelude.{◌≡◌, ℕ, List, [], ◌∷◌, ◌++◌}
use Rattle.word_layout.specs.declared.places.Part.{Part}
use Rattle.word_layout.specs.declared.places.Part.TheVariants.{Link}
use Rattle.word_layout.specs.Places.{IsRow, FitsPart}
use Rattle.word_layout.specs.Words.{Word, FreeHead, PlaceWord}
use Rattle.index_machine.specs.declared.opening.Opening.{Opening}
use Rattle.index_machine.specs.Execution.{Execution, Without}
use Rattle.index_machine.specs.Lists.{In, AreDistinct}
use Rattle.index_machine.specs.Words.{shape, word}
use Rattle.index_machine.specs.Sections.{IsCaller, IsHand}
use Rattle.index_machine.specs.Rows.{Unused, InArray, InBuffer, role, Holds, free_stack}
use Rattle.index_machine.specs.Keepers.{IsArrayPlaceOf}
use Rattle.index_machine.specs.Conditions.{Valid}

-- ---- whose each row is ----

-- each record row is in just one place: on the free stack, there once, in the one hand that holds
-- it, or in one buffer
pub record RowsPlaced (o : Opening) (t : Execution) : Type 0 where
  pub free : (place : ℕ) → In place (free_stack o t) →
      (role o place t ≡ Unused) × IsRow (shape o) place
  pub once : AreDistinct (free_stack o t)
  pub all : (place : ℕ) → IsRow (shape o) place → role o place t ≡ Unused →
      In place (free_stack o t)
  pub held : (hand place : ℕ) → Holds o hand place t → IsRow (shape o) place × IsHand o hand
  -- a caller holds one row at most
  pub one : (caller place other : ℕ) → IsCaller o caller → Holds o caller place t →
      Holds o caller other t → place ≡ other
  pub buffered : (group k place : ℕ) → role o place t ≡ InBuffer group k → IsRow (shape o) place
  -- a place in an array is none of the rows
  pub arrayed : (group k place : ℕ) → role o place t ≡ InArray group k →
      IsArrayPlaceOf o group place

-- while others step, a row in a hand stays there and keeps its words
abbrev pub KeepsHeld : Opening → ℕ → ℕ → Execution → Execution → Type 0
KeepsHeld o hand place newer t =
    Holds o hand place (newer ++ t)
    × ((part : Part) →
    word o (newer ++ t) (PlaceWord place part) ≡ word o t (PlaceWord place part))

-- ---- links ----

-- n is the place of the first row, and each row's link is the place of the next one, or 0 behind
-- the last
abbrev pub Chain : (Word → ℕ) → ℕ → List ℕ → Type 0
Chain holds n [] = n ≡ 0
Chain holds n (place ∷ rest) = (n ≡ place) × Chain holds (holds (PlaceWord place Link)) rest

-- the free stack is the list that is linked from the head
abbrev pub IsLinked : Opening → Execution → Type 0
IsLinked o t = Chain (word o t) (word o t FreeHead) (free_stack o t)

-- ---- the laws, over all executions ----

-- no row is lost, and none is in two places
abbrev pub EachRowIsInOnePlace : Type 0
EachRowIsInOnePlace = (o : Opening) (t : Execution) → Valid o t → RowsPlaced o t

-- a row in a hand is changed by that hand alone
abbrev pub HeldRowsStay : Type 0
HeldRowsStay =
    (o : Opening) (hand place : ℕ) (newer t : Execution) → Valid o (newer ++ t) →
    Without hand newer → Holds o hand place t → KeepsHeld o hand place newer t

-- the words hold the free stack
abbrev pub FreeStackIsLinked : Type 0
FreeStackIsLinked = (o : Opening) (t : Execution) → Valid o t → IsLinked o t

-- the link of each record row, free or in a hand, names a record row, or none
abbrev pub LinksNameRows : Type 0
LinksNameRows =
    (o : Opening) (t : Execution) → Valid o t → (place : ℕ) → IsRow (shape o) place →
    FitsPart (shape o) Link (word o t (PlaceWord place Link))
