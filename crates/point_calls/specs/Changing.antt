-- Why a change of a record came to no end, and what the call answers then.
use Rattle.std.specs.Prelude.{◌≡◌, ◌≢◌, ℕ, ◌+◌, ◌^◌, ◌<◌, ◌≤◌, Bool, Option, None, Some}
use Rattle.word_layout.specs.declared.places.Part.TheVariants.{State}
use Rattle.word_layout.specs.Places.{part_address}
use Rattle.word_layout.specs.Words.{PlaceWord}
use Rattle.map_model.specs.History.{changes_at}
use Rattle.index_machine.specs.declared.events.Action.TheVariants.{LoadState, FailLock}
use Rattle.index_machine.specs.Execution.{Execution}
use Rattle.index_machine.specs.Forms.{last_version}
use Rattle.index_machine.specs.LivePlaces.{history}
use Rattle.index_machine.specs.Places.{first_version}
use Rattle.index_rule.specs.declared.board.Board.{Board}
use Rattle.index_rule.specs.declared.hand.Hand.{Hand}
use Rattle.tried_calls.specs.declared.tried.Tried.{Tried}
use Rattle.tried_calls.specs.declared.tried.Tried.TheVariants as tried
use Rattle.tried_calls.specs.declared.tried.Why.TheVariants as why
use Rattle.index_rule.specs.Hands.{opening_of}
use Rattle.index_rule.specs.Moments.{IsWithin}
use Rattle.record_cell.specs.declared.answers.Wrote.{Wrote}
use Rattle.record_cell.specs.declared.answers.Wrote.TheVariants as wrote
use Rattle.record_cell.specs.Writes.{worn_word}
use Rattle.delta_buffer.specs.Walks.{MakesIn}
use Rattle.point_calls.specs.PointCalls.{IsOfKey, MakesThen}

-- the exchange of the state word of a place of the key, at this address, found another word than the call
-- had loaded there before; the call stored nothing there in between
pub record LosesLock (b : Board) (key : ℕ) (h : Hand) (address expected found : ℕ) (k : Hand)
    : Type 0 where
  pub place : ℕ
  pub is_address : address ≡ part_address place State
  pub steps : MakesThen h (PlaceWord place State) (LoadState place expected)
      (FailLock place expected found) k
  pub of_key : IsOfKey b key place k
  pub differ : expected ≢ found

-- the call loaded the state word of the last version at a place of the key, which had as many changes as
-- raise a version to the last one
pub record MeetsLast (b : Board) (key : ℕ) (h : Hand) (place word : ℕ) (k : Hand) : Type 0 where
  pub loaded : MakesIn h (LoadState place word) k
  pub removed : Bool
  pub last : word ≡ worn_word removed
  pub of_key : IsOfKey b key place k
  pub moment : Execution
  pub within : IsWithin h k moment
  pub enough : last_version ≤ first_version (opening_of b) + changes_at key (history moment)

-- a change was refused, and a place whose lock was lost has an address
abbrev pub IsRefusal : Wrote → Type 0
IsRefusal (wrote.Locked place word) = Unit {0}
IsRefusal (wrote.Raced place expected found) = place < 2 ^ 28
IsRefusal (wrote.Worn place word) = Unit {0}
IsRefusal _ = ⊥

-- the answer of the call whose change was refused
abbrev pub refusal_of : Wrote → Option (Tried (Option ℕ))
refusal_of (wrote.Locked place word) = Some (tried.Again (why.Locked place word))
refusal_of (wrote.Raced place expected found) =
    Some (tried.Again (why.Raced (part_address place State) expected found))
refusal_of (wrote.Worn place word) = Some (tried.Worn place word)
refusal_of _ = None

-- the answer of the call that met this phase word of a frozen group
abbrev pub frozen_again : ℕ → ℕ → Tried (Option ℕ)
frozen_again group word = tried.Again (why.Frozen group word)
