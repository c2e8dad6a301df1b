-- What the answer to a call tells of its caller.
use Rattle.std.specs.Prelude.{◌≡◌, ℕ, ◌+◌, ◌≤◌, Some, None, ◌∷◌, length}
use Rattle.map_model.specs.declared.calls.Call.{Call}
use Rattle.map_model.specs.declared.calls.Call.TheVariants.{Put, Remove}
use Rattle.map_model.specs.declared.calls.Answer.{Answer}
use Rattle.map_model.specs.declared.calls.Answer.TheVariants.{Full, Worn}
use Rattle.map_model.specs.declared.entries.Entry.{Entry}
use Rattle.map_model.specs.Answer.{entry_of}
use Rattle.map_model.specs.History.{changes_at}
use Rattle.map_model.specs.Logs.{place_of}
use Rattle.index_machine.specs.Execution.{Execution}
use Rattle.index_machine.specs.Forms.{last_version}
use Rattle.index_machine.specs.LivePlaces.{history, value_in_map}
use Rattle.index_machine.specs.Places.{first_version}
use Rattle.index_rule.specs.Moments.{IsBetween}
use Rattle.row_arena.specs.Fullness.{RowsAreUsedUp}
use Rattle.xindex_core.specs.Callers.{Caller, IsLater, seen_by}

-- the moment is one of the call: behind all that the caller knew, and all that others had changed
-- before its first step
abbrev pub IsMomentOf : Caller → Caller → Execution → Type 0
IsMomentOf old new moment = IsBetween old.number old.known new.known moment

-- ---- entries ----

-- the call added its one entry to the log, which stands at a moment of the call
pub record AddsEntry (old : Caller) (call : Call) (answer : Answer) (new : Caller) : Type 0 where
  pub moment : Execution
  pub within : IsMomentOf old new moment
  pub entry : Entry
  pub is : entry_of new.number (place_of entry) call answer ≡ Some entry
  pub place : place_of entry ≡ length (history moment)
  pub added : new.log ≡ entry ∷ old.log

-- the call added no entry
abbrev pub AddsNone : Caller → Caller → Type 0
AddsNone old new = new.log ≡ old.log

-- ---- refusals ----

-- the key was not in the map at a moment of the call, and the record rows are used up
pub record HasNoRoom (old : Caller) (key : ℕ) (new : Caller) : Type 0 where
  pub no_entry : AddsNone old new
  pub moment : Execution
  pub within : IsMomentOf old new moment
  pub absent : value_in_map new.opening key moment ≡ None
  pub used_up : RowsAreUsedUp new.opening new.known

-- the key has had as many changes as raise the version of a record to the last one
pub record IsExhausted (old : Caller) (key : ℕ) (new : Caller) : Type 0 where
  pub no_entry : AddsNone old new
  pub enough : last_version ≤ first_version new.opening + changes_at key (seen_by new)

-- ---- answers ----

-- what the answer tells: an entry was added, or why none was
abbrev pub Tells : Caller → Call → Answer → Caller → Type 0
Tells old (Put key value) Full new = HasNoRoom old key new
Tells old call Full new = ⊥
Tells old (Put key value) Worn new = IsExhausted old key new
Tells old (Remove key) Worn new = IsExhausted old key new
Tells old call Worn new = ⊥
Tells old call answer new = AddsEntry old call answer new

-- what one answered call does: the caller before it, the call, the answer, the caller after it
abbrev pub Answers : Caller → Call → Answer → Caller → Type 0
Answers old call answer new = IsLater old new × Tells old call answer new
