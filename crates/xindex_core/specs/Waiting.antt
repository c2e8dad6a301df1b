-- What becomes of a call that is tried until it is answered.
use Rattle.std.specs.Prelude.{◌≡◌, ℕ, zero, suc, Option, Some, None, MatchOption}
use Rattle.map_model.specs.declared.calls.Call.{Call}
use Rattle.map_model.specs.declared.calls.Answer.{Answer}
use Rattle.index_machine.specs.Execution.{Continues}
use Rattle.tried_calls.specs.declared.tried.Tried.{Tried}
use Rattle.xindex_core.specs.declared.index.Index.{Index}
use Rattle.xindex_core.specs.declared.pass.Pass.{Pass}
use Rattle.xindex_core.specs.Answering.{AddsNone}
use Rattle.xindex_core.specs.Callers.{Caller}
use Rattle.xindex_core.specs.Tries.{Tries, answer_of}

-- the caller knows more, and its log is as it was
pub record HasWaited (old new : Caller) : Type 0 where
  pub opening : new.opening ≡ old.opening
  pub number : new.number ≡ old.number
  pub goes_on : Continues old.known new.known
  pub no_entry : AddsNone old new

-- the pass tried the call once, and it is to be tried again
pub record TriesInVain (i : Index) (old : Pass) (call : Call) (new : Pass) : Type 0 where
  pub came : Tried (Option ℕ)
  pub tries : Tries i old call came new
  pub is : answer_of call came ≡ None

-- so it did so many times
abbrev pub TriesAgain : Index → Pass → Call → ℕ → Pass → Type 0
TriesAgain i old call zero new = new ≡ old
TriesAgain i old call (suc times) new =
    (between : Pass) × TriesAgain i old call times between × TriesInVain i between call new

-- the pass tried the call once, and this is the answer
pub record AnswersOnce (i : Index) (old : Pass) (call : Call) (answer : Answer) (new : Pass)
    : Type 0 where
  pub came : Tried (Option ℕ)
  pub tries : Tries i old call came new
  pub is : answer_of call came ≡ Some answer

-- the pass tried the call once: it was answered, or is to be tried again
abbrev pub AnswersOrFails : Index → Pass → Call → Option Answer → Pass → Type 0
AnswersOrFails i old call answer new =
    MatchOption answer (TriesInVain i old call new)
    (λ answered. AnswersOnce i old call answered new)

-- the answer is that of the last try, and each before it was to be tried again
pub record AnswersLast (i : Index) (old : Pass) (call : Call) (answer : Answer) (new : Pass)
    : Type 0 where
  pub times : ℕ
  pub before : Pass
  pub again : TriesAgain i old call times before
  pub last : AnswersOnce i before call answer new
