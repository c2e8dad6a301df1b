-- What a call comes to that is tried once.
use Rattle.std.specs.Prelude.{◌≡◌, ℕ, Option, Some, None, MatchOption}
use Rattle.map_model.specs.declared.calls.Call.{Call}
use Rattle.map_model.specs.declared.calls.Call.TheVariants as call
use Rattle.map_model.specs.declared.calls.Answer.{Answer}
use Rattle.map_model.specs.declared.calls.Answer.TheVariants as answer
use Rattle.map_model.specs.declared.calls.Near.{Near}
use Rattle.map_model.specs.declared.calls.Near.TheVariants as near
use Rattle.index_machine.specs.declared.events.Action.TheVariants.{Enter, Leave}
use Rattle.index_machine.specs.Conditions.{next_epoch}
use Rattle.index_rule.specs.declared.board.Board.{Board}
use Rattle.index_rule.specs.declared.hand.Hand.{Hand}
use Rattle.index_rule.specs.declared.rows.PrivateRow.{PrivateRow}
use Rattle.tried_calls.specs.declared.tried.Tried.{Tried}
use Rattle.tried_calls.specs.declared.tried.Tried.TheVariants as tried
use Rattle.index_rule.specs.Hands.{Makes, known}
use Rattle.point_calls.specs.Arrays.{CountsOnce}
use Rattle.point_calls.specs.Exchanges.{ExchangeCounts, MakesFewExchanges}
use Rattle.point_calls.specs.Exchanges.{no_exchange, one_lock, one_of_each}
use Rattle.point_calls.specs.Getting.{GetTells}
use Rattle.point_calls.specs.PointCalls.{IsOneSection}
use Rattle.point_calls.specs.Putting.{KeepsSpare, LeavesNone, PutTells}
use Rattle.point_calls.specs.Removing.{RemoveTells}
use Rattle.xindex_core.specs.declared.index.Index.{Index}
use Rattle.xindex_core.specs.declared.pass.Pass.{Pass}
use Rattle.xindex_core.specs.Answering.{AddsNone, Tells}
use Rattle.xindex_core.specs.Callers.{Caller, IsLater}
use Rattle.xindex_core.specs.Passes.{caller_with, probes_of, spare_of}

-- ---- answers ----

-- what stands at one key, as what stands next from it on
abbrev pub near_at : ℕ → Option ℕ → Near
near_at from None = near.Gap from
near_at from (Some value) = near.Row from value

-- the answer to a call that was tried, or none where it is to be tried again; what stands next is told of
-- one key alone
abbrev pub answer_of : Call → Tried (Option ℕ) → Option Answer
answer_of (call.Get key) (tried.Done found) = Some (answer.Value found)
answer_of (call.Put key value) (tried.Done old) = Some (answer.Old old)
answer_of (call.Remove key) (tried.Done old) = Some (answer.Old old)
answer_of (call.Next from) (tried.Done found) = Some (answer.Near (near_at from found))
answer_of made (tried.Again why) = None
answer_of made tried.Full = Some answer.Full
answer_of made (tried.Worn place word) = Some answer.Worn

-- what the call ended as: what its answer tells, or nothing was added
abbrev pub EndsAs : Caller → Call → Tried (Option ℕ) → Caller → Type 0
EndsAs old made came new =
    MatchOption (answer_of made came) (AddsNone old new) (λ answered. Tells old made answered new)

-- ---- steps ----

-- the hand entered, did this within the one read section, where it made no more exchanges than these, and
-- left
pub record EntersAndLeaves (i : Index) (old : Pass) (most : ExchangeCounts)
    (Does : Hand → Hand → Type 0) (new : Pass) : Type 0 where
  pub inside : Hand
  pub done : Hand
  pub enters : Makes i.board old.hand (Enter (next_epoch old.hand.number (known old.hand))) inside
  pub section : IsOneSection inside done
  pub does : Does inside done
  pub exchanges : MakesFewExchanges most inside done
  pub leaves : Makes i.board done (Leave (next_epoch done.number (known done))) new.hand

-- what the call tells of its steps, within its read section
abbrev pub StepsTell : Board → Call → Hand → Tried (Option ℕ) → Hand → Type 0
StepsTell b (call.Get key) h came k = GetTells b key h came k
StepsTell b (call.Next from) h came k = GetTells b from h came k
StepsTell b (call.Put key value) h came k = PutTells b key value h came k
StepsTell b (call.Remove key) h came k = RemoveTells b key h came k

-- the key that the call is on; what stands next is sought from its own on
abbrev pub key_of_call : Call → ℕ
key_of_call (call.Get key) = key
key_of_call (call.Put key value) = key
key_of_call (call.Remove key) = key
key_of_call (call.Next from) = from

-- how many exchanges the call makes at most: a get none, a remove one of a version lock, and a put one of
-- a version lock, one of the head of the free stack and one of a link
abbrev pub most_exchanges : Call → ExchangeCounts
most_exchanges (call.Get key) = no_exchange
most_exchanges (call.Next from) = no_exchange
most_exchanges (call.Put key value) = one_of_each
most_exchanges (call.Remove key) = one_lock

-- ---- the spare row ----

-- what becomes of the spare row: a put uses it up only where its key had no value, and leaves one only where it lost
-- an exchange; the other calls leave it
abbrev pub SpareBecomes : Call → Option PrivateRow → Tried (Option ℕ) → Option PrivateRow → Type 0
SpareBecomes (call.Get key) old came new = new ≡ old
SpareBecomes (call.Next from) old came new = new ≡ old
SpareBecomes (call.Put key value) old came new = KeepsSpare old came new × LeavesNone old came new
SpareBecomes (call.Remove key) old came new = new ≡ old

-- ---- a try ----

-- the pass tried the call once
pub record Tries (i : Index) (old : Pass) (made : Call) (came : Tried (Option ℕ)) (new : Pass)
    : Type 0 where
  pub later : IsLater (caller_with i old) (caller_with i new)
  pub ends : EndsAs (caller_with i old) made came (caller_with i new)
  pub steps : EntersAndLeaves i old (most_exchanges made) (λ h k. StepsTell i.board made h came k) new
  pub full : came ≡ tried.Full → spare_of old ≡ None
  pub spare : SpareBecomes made (spare_of old) came (spare_of new)
  pub probes : CountsOnce i.board (key_of_call made) steps.inside (probes_of old) (probes_of new)
