-- A session of the one caller that changes an index: then the log of its calls tells the map.
use Rattle.std.specs.Prelude.{◌≡◌, ℕ, ◌+◌, ◌≤◌, None, Some, [], ◌∷◌, length}
use Rattle.map_model.specs.declared.calls.Call.{Call}
use Rattle.map_model.specs.declared.calls.Call.TheVariants.{Put, Remove}
use Rattle.map_model.specs.declared.calls.Answer.{Answer}
use Rattle.map_model.specs.declared.calls.Answer.TheVariants.{Full, Worn}
use Rattle.map_model.specs.declared.entries.Entry.{Entry}
use Rattle.map_model.specs.Answer.{entry_of}
use Rattle.map_model.specs.Entry.{StandsBetween}
use Rattle.map_model.specs.History.{History, after, caller_of, changes_at, inserts}
use Rattle.map_model.specs.Logs.{Log, changes_of, place_of}
use Rattle.map_model.specs.Map.{Map, look}
use Rattle.word_layout.specs.declared.limits.Limits.{Limits}
use Rattle.index_machine.specs.Forms.{last_version}
use Rattle.index_machine.specs.Openings.{opening_map}
use Rattle.index_machine.specs.Words.{limits}
use Rattle.xindex_core.specs.Answering.{Answers}
use Rattle.xindex_core.specs.Callers.{Caller, IsTruthful, seen_by}

-- the map that the changes of a log leave, from an empty one
abbrev pub map_of : Log → Map
map_of log = after [] (changes_of log)

-- the call added its one entry, at the end of the changes: it is true of the map that they left, and of
-- the one that it leaves
pub record AddsNext (old : Log) (call : Call) (answer : Answer) (new : Log) : Type 0 where
  pub entry : Entry
  pub place : place_of entry ≡ length (changes_of old)
  pub is : entry_of 0 (place_of entry) call answer ≡ Some entry
  pub true_of : StandsBetween (map_of old) entry (map_of new)
  pub added : new ≡ entry ∷ old

-- the log leaves no room for the key: it is not in the map, and the record rows are used up, since as
-- many keys were inserted as there are rows, but for one that each other caller may hold
pub record LeavesNoRoom (l : Limits) (old : Log) (key : ℕ) : Type 0 where
  pub absent : look (map_of old) key ≡ None
  pub full : l.records + 1 ≤ inserts [] (changes_of old) + l.callers

-- the log has as many changes of the key as raise the version of a record to the last one
abbrev pub ExhaustsVersion : Limits → Log → ℕ → Type 0
ExhaustsVersion l old key = last_version ≤ l.first_version + changes_at key (changes_of old)

-- what one call of caller 0 does to its log, where no other caller changes the index and it was opened
-- empty with these limits
abbrev pub AnswersAlone : Limits → Log → Call → Answer → Log → Type 0
AnswersAlone l old (Put key value) Full new = LeavesNoRoom l old key × (new ≡ old)
AnswersAlone l old call Full new = ⊥
AnswersAlone l old (Put key value) Worn new = ExhaustsVersion l old key × (new ≡ old)
AnswersAlone l old (Remove key) Worn new = ExhaustsVersion l old key × (new ≡ old)
AnswersAlone l old call Worn new = ⊥
AnswersAlone l old call answer new = AddsNext old call answer new

-- ---- who is alone ----

-- each change is caller 0's
abbrev pub AllByZero : History → Type 0
AllByZero [] = Unit {0}
AllByZero (c ∷ h) = (caller_of c ≡ 0) × AllByZero h

-- it is caller 0 of an index that was opened empty with these limits
pub record IsAlone (l : Limits) (c : Caller) : Type 0 where
  pub truthful : IsTruthful c
  pub limits_are : limits c.opening ≡ l
  pub empty : opening_map c.opening ≡ []
  pub zero : c.number ≡ 0

-- ---- the law ----

-- what a caller that is alone is answered is true of the map that its log tells; and what the log changed
-- is all that was changed
abbrev pub CallersAloneTellTheMap : Type 0
CallersAloneTellTheMap =
    (l : Limits) (old : Caller) (call : Call) (answer : Answer) (new : Caller) → IsAlone l old →
    Answers old call answer new → AllByZero (seen_by new) →
    IsAlone l new × AllByZero (seen_by old) × AnswersAlone l old.log call answer new.log
    × (changes_of new.log ≡ seen_by new)
