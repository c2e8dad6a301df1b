-- The version lock of a record with a value, as the changes of it take it.
use Rattle.std.specs.Prelude.{◌≡◌, ◌≢◌, ℕ, false}
use Rattle.map_model.specs.declared.entries.Change.{Change}
use Rattle.word_layout.specs.State.{IsUnlockedWord}
use Rattle.index_machine.specs.declared.events.Action.TheVariants.{Lock, FailLock}
use Rattle.index_machine.specs.Forms.{Locked}
use Rattle.index_machine.specs.Places.{form}
use Rattle.index_machine.specs.RecordConditions.{IsAt}
use Rattle.index_rule.specs.declared.board.Board.{Board}
use Rattle.index_rule.specs.declared.hand.Hand.{Hand}
use Rattle.index_rule.specs.Hands.{IsHandOf, Makes, known, opening_of}
use Rattle.index_rule.specs.Moments.{AddsNoEntry}
use Rattle.index_rule.specs.Records.{HoldsNoOther}
use Rattle.record_cell.specs.declared.answers.Wrote.{Wrote}
use Rattle.record_cell.specs.declared.answers.Wrote.TheVariants as wrote
use Rattle.record_cell.specs.Finding.{Finds, HasSameKey, IsAtOwn, IsReadyAt}
use Rattle.record_cell.specs.Writes.{Writes, WriteTells}

-- the hand found the record of the place, which has a value, and holds its version lock alone
pub record HasLocked (b : Board) (h : Hand) (place at : ℕ) (k : Hand) : Type 0 where
  pub word : ℕ
  pub found : Hand
  pub found_of : IsHandOf b found
  pub finds : Finds b h place at word found
  pub version : ℕ
  pub unlocked : IsUnlockedWord version false word
  pub locks : Makes b found (Lock at word) k
  pub own : IsAtOwn (opening_of b) k.number place (known k)
  pub there : IsAt (opening_of b) k.number at (known k)
  pub value : ℕ
  pub locked : form (opening_of b) at (known k) ≡ Locked k.number version false value value
  pub no_other : HoldsNoOther (opening_of b) k.number at (known k)
  pub same_key : HasSameKey b h place at k
  pub no_entry : AddsNoEntry h k

-- the change was refused before it began, whatever it was to be
abbrev pub IsRefused : Board → Hand → ℕ → Wrote → Hand → Type 0
IsRefused b h place refusal k =
    IsReadyAt b k place
    × ((change : Change) → Writes b h place change refusal k × WriteTells b h place change refusal k)

-- the exchange that was to take the lock found another word
abbrev pub LosesRace : Board → Hand → ℕ → ℕ → Wrote → Hand → Type 0
LosesRace b h place word (wrote.Raced at expected found) k =
    (at ≡ place) × (expected ≡ word) × Makes b h (FailLock at expected found) k
    × (expected ≢ found)
LosesRace b h place word refusal k = ⊥
