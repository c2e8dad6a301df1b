-- What a call does at a place of its key, and what it knows once the place has no value.
use Rattle.std.specs.Prelude.{◌≡◌, ℕ, Option, None, true}
use Rattle.index_machine.specs.Execution.{Continues, Execution}
use Rattle.index_machine.specs.LivePlaces.{value_in_map}
use Rattle.index_machine.specs.Reaching.{saw_opened}
use Rattle.machine_chain.specs.Walks.{AnswersFor, BeginsBeforeNew}
use Rattle.machine_readers.specs.Readers.{ArrayHasNone, BufferHasNone}
use Rattle.index_rule.specs.declared.board.Board.{Board}
use Rattle.index_rule.specs.declared.hand.Hand.{Hand}
use Rattle.index_rule.specs.Calls.{CanCall}
use Rattle.index_rule.specs.Hands.{known, opening_of}
use Rattle.index_rule.specs.Moments.{IsWithin}
use Rattle.machine_buffers.specs.Groups.{IsKeyOf}
use Rattle.sorted_group.specs.Standing.{CanSearch}
use Rattle.record_cell.specs.Finding.{IsReadyAt}
use Rattle.record_cell.specs.Reads.{FindsNone}
use Rattle.root_table.specs.Standing.{IsInOpened}
use Rattle.tried_calls.specs.declared.tried.Tried.{Tried}
use Rattle.point_calls.specs.declared.acting.Aim.{Aim}
use Rattle.point_calls.specs.declared.acting.Aim.TheVariants as aim
use Rattle.point_calls.specs.Exchanges.{ExchangeCounts, MakesFewExchanges, no_exchange, one_lock}
use Rattle.point_calls.specs.Getting.{GetTells}
use Rattle.point_calls.specs.Removing.{RemoveTells}
use Rattle.point_calls.specs.PointCalls.{IsCallSoFar, IsOfKey, IsOneSection, KeepsRows}

-- ---- the call so far ----

-- in the call so far the caller came to this place of the key
pub record IsAtPlaceOf (b : Board) (start h : Hand) (key place : ℕ) : Type 0 where
  pub call : IsCallSoFar b start h
  pub rows : KeepsRows b start h
  pub ready : IsReadyAt b h place
  pub of_key : IsOfKey b key place h

-- the call goes on within its read section; it added no entry, took no row and gave none
pub record GoesOn (b : Board) (start h k : Hand) : Type 0 where
  pub can : CanCall b k
  pub call : IsCallSoFar b start k
  pub rows : KeepsRows b start k
  pub since : Continues (known h) (known k)

-- the call came to its end within its read section; it took no row and gave none
pub record HasEnded (b : Board) (start k : Hand) : Type 0 where
  pub can : CanCall b k
  pub number : k.number ≡ start.number
  pub section : IsOneSection start k
  pub rows : KeepsRows b start k

-- in the call so far the caller came to a group that answers for the key, or did before the key's last install
pub record IsInGroupFor (b : Board) (start h : Hand) (group key : ℕ) : Type 0 where
  pub call : IsCallSoFar b start h
  pub rows : KeepsRows b start h
  pub search : CanSearch b group h
  pub answers : AnswersFor (opening_of b) key group (known h)

-- in the call so far the caller came to a group in whose buffer rows of the key belong, or belonged
pub record IsAtBufferOf (b : Board) (start h : Hand) (group key : ℕ) : Type 0 where
  pub call : IsCallSoFar b start h
  pub rows : KeepsRows b start h
  pub search : CanSearch b group h
  pub of_key : IsKeyOf (opening_of b) group key (known h)

-- ---- a place ----

-- the call goes on from a place that had no value at a moment since; it tried no exchange
pub record PassesBy (b : Board) (start h : Hand) (place : ℕ) (k : Hand) : Type 0 where
  pub on : GoesOn b start h k
  pub none : FindsNone b h place k
  pub exchanges : MakesFewExchanges no_exchange h k

-- what the answer of a call with this aim tells of the key
abbrev pub TellsOf : Aim → Board → ℕ → Hand → Tried (Option ℕ) → Hand → Type 0
TellsOf aim.Read b key start answer k = GetTells b key start answer k
TellsOf aim.Remove b key start answer k = RemoveTells b key start answer k

-- how many exchanges it makes at most
abbrev pub most_of : Aim → ExchangeCounts
most_of aim.Read = no_exchange
most_of aim.Remove = one_lock

-- the call ended with this answer
abbrev pub EndsWith : Aim → Board → ℕ → Hand → Tried (Option ℕ) → Hand → Type 0
EndsWith aim b key start answer k = HasEnded b start k × TellsOf aim b key start answer k

-- ---- a buffer ----

-- the call goes on from a buffer in which no row had a value for the key at a moment since; it tried no exchange
pub record PassesBuffer (b : Board) (start h : Hand) (group key : ℕ) (k : Hand) : Type 0 where
  pub on : GoesOn b start h k
  pub moment : Execution
  pub within : IsWithin h k moment
  pub none : BufferHasNone (opening_of b) moment group key
  pub exchanges : MakesFewExchanges no_exchange h k

-- ---- groups ----

-- in the call so far the caller came to the key's group, and no place of its array has a value for the key
pub record LacksInArray (b : Board) (start h : Hand) (group key : ℕ) : Type 0 where
  pub there : IsInGroupFor b start h group key
  pub array : ArrayHasNone (opening_of b) (known h) group key

-- and it saw the group opened to the rebuild with this first new group
pub record LacksInOpened (b : Board) (start h : Hand) (group first key : ℕ) : Type 0 where
  pub lacks : LacksInArray b start h group key
  pub opened : IsInOpened b group first key h
  pub begins : BeginsBeforeNew (opening_of b) group first key first (known h)
  pub saw : saw_opened h.number first (known h) ≡ true

-- the call goes on, and the key was not in the map at a moment of it; it tried no exchange since
pub record Misses (b : Board) (start h : Hand) (key : ℕ) (k : Hand) : Type 0 where
  pub on : GoesOn b start h k
  pub moment : Execution
  pub within : IsWithin start k moment
  pub absent : value_in_map (opening_of b) key moment ≡ None
  pub exchanges : MakesFewExchanges no_exchange h k
