-- What a put knows once it found no value to change, and how it ends where it found one.
use Rattle.std.specs.Prelude.{◌≡◌, ◌≢◌, ℕ, Option}
use Rattle.word_layout.specs.declared.places.Part.TheVariants.{State}
use Rattle.word_layout.specs.Words.{PlaceWord}
use Rattle.index_machine.specs.declared.events.Action.TheVariants.{LoadState}
use Rattle.index_machine.specs.Rows.{InBuffer, role}
use Rattle.index_rule.specs.declared.board.Board.{Board}
use Rattle.index_rule.specs.declared.hand.Hand.{Hand}
use Rattle.index_rule.specs.Hands.{known, opening_of}
use Rattle.record_cell.specs.Conditions.{IsTombstoneState}
use Rattle.tried_calls.specs.declared.tried.Tried.{Tried}
use Rattle.tried_calls.specs.declared.tried.Tried.TheVariants.{Full}
use Rattle.point_calls.specs.declared.found.Missed.{Missed}
use Rattle.point_calls.specs.Exchanges.{MakesFewExchanges, no_exchange}
use Rattle.point_calls.specs.Places.{GoesOn, HasEnded, PassesBuffer, PassesBy}
use Rattle.point_calls.specs.PointCalls.{MakesAt}
use Rattle.point_calls.specs.Putting.{HadNoRow, HasLeft, MayPutInto, PutTells, key_of_missed}

-- the call ended with this answer, and not for want of a row
pub record EndsPut (b : Board) (key value : ℕ) (start : Hand) (answer : Tried (Option ℕ)) (k : Hand)
    : Type 0 where
  pub ended : HasEnded b start k
  pub tells : PutTells b key value start answer k
  pub not_full : answer ≢ Full

-- the call goes on from a tombstone; where the place is a row, this is its state word, and the call has stored
-- nothing there since
pub record StopsAt (b : Board) (start h : Hand) (key place word : ℕ) (k : Hand) : Type 0 where
  pub passes : PassesBy b start h place k
  pub stone : IsTombstoneState word
  pub row : (group : ℕ) → role (opening_of b) place (known h) ≡ InBuffer group key →
      MakesAt start (PlaceWord place State) (LoadState place word) k

-- the call goes on from a buffer without a value for the key, and left this there
pub record LeavesInBuffer (b : Board) (start h : Hand) (group key : ℕ) (missed : Missed) (k : Hand)
    : Type 0 where
  pub passes : PassesBuffer b start h group key k
  pub left : HasLeft b start k group key missed
  pub no_row : HadNoRow group key missed h k

-- the call goes on, and left this where the key may come in; it tried no exchange
pub record LeavesRoom (b : Board) (start h : Hand) (key : ℕ) (missed : Missed) (k : Hand) : Type 0 where
  pub on : GoesOn b start h k
  pub exchanges : MakesFewExchanges no_exchange h k
  pub may : MayPutInto b start k missed
  pub of_key : key_of_missed missed ≡ key
