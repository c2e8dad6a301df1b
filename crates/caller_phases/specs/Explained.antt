-- A transcript that one history of changes explains, phase by phase.
--
-- The fact to remember: a phase has a stretch of the history, from what was changed before it to what was changed by
-- its end. So a call of a later phase comes behind all changes of the earlier ones.
use Rattle.std.specs.Prelude.{◌≡◌, ℕ, ◌+◌, ◌<◌, ◌≤◌, Some, None, List, [], ◌∷◌, ◌++◌, length, get_or, replicate}
use Rattle.std.specs.List.{AllByRecursion}
use Rattle.map_model.specs.declared.calls.Call.{Call}
use Rattle.map_model.specs.declared.calls.Call.TheVariants.{Put, Remove}
use Rattle.map_model.specs.declared.calls.Answer.{Answer}
use Rattle.map_model.specs.declared.calls.Answer.TheVariants.{Full, Worn}
use Rattle.map_model.specs.declared.entries.Entry.{Entry}
use Rattle.map_model.specs.Answer.{entry_of}
use Rattle.map_model.specs.History.{History, IsLegal, caller_of, changes_at, inserts}
use Rattle.map_model.specs.Logs.{Log, map_at, next_place, place_of}
use Rattle.map_model.specs.Map.{Map, look}
use Rattle.linearization.specs.Linearization.{AreLogsOf}
use Rattle.word_layout.specs.declared.limits.Limits.{Limits}
use Rattle.index_machine.specs.Forms.{last_version}
use Rattle.wire_commands.specs.declared.reply.Reply.{Reply}
use Rattle.line_session.specs.Session.{Session}
use Rattle.trace_text.specs.declared.lines.Line.{Line}
use Rattle.trace_text.specs.Transcripts.{phases_text}
use Rattle.caller_phases.specs.Calls.{calls_in, phases_of}

-- ---- one call ----

-- the call added its one entry to its caller's log, which stands in the stretch: a look at either end of it or
-- between, and a change among those that the stretch has
pub record AddsWithin (earlier later : History) (caller : ℕ) (old : Log) (call : Call)
    (answer : Answer) (new : Log) : Type 0 where
  pub entry : Entry
  pub is : entry_of caller (place_of entry) call answer ≡ Some entry
  pub from : length earlier ≤ place_of entry
  pub to : next_place entry ≤ length later
  pub added : new ≡ entry ∷ old

-- the call added no entry: its key was absent at a place of the stretch, and by the end of it the record rows are
-- used up, since as many keys were inserted as there are rows, but for one that each other caller may hold
pub record HadNoRoom (l : Limits) (m : Map) (earlier later : History) (old : Log) (key : ℕ) (new : Log)
    : Type 0 where
  pub place : ℕ
  pub from : length earlier ≤ place
  pub to : place ≤ length later
  pub absent : look (map_at m later place) key ≡ None
  pub used_up : l.records + 1 ≤ inserts m later + l.callers
  pub no_entry : new ≡ old

-- the call added no entry: by the end of the stretch its key has had as many changes as raise the version of a record
-- to the last one
pub record HadExhausted (l : Limits) (later : History) (old : Log) (key : ℕ) (new : Log) : Type 0 where
  pub enough : last_version ≤ l.first_version + changes_at key later
  pub no_entry : new ≡ old

-- what one call does to its caller's log, in a stretch of a history over this opening map
abbrev pub AnswersWithin : Limits → Map → History → History → ℕ → Log → Call → Answer → Log → Type 0
AnswersWithin l m earlier later caller old (Put key value) Full new =
    HadNoRoom l m earlier later old key new
AnswersWithin l m earlier later caller old call Full new = ⊥
AnswersWithin l m earlier later caller old (Put key value) Worn new =
    HadExhausted l later old key new
AnswersWithin l m earlier later caller old (Remove key) Worn new = HadExhausted l later old key new
AnswersWithin l m earlier later caller old call Worn new = ⊥
AnswersWithin l m earlier later caller old call answer new =
    AddsWithin earlier later caller old call answer new

-- ---- one phase ----

-- the history goes on
abbrev pub GoesOnTo : History → History → Type 0
GoesOnTo earlier later = (newer : History) × (newer ++ earlier ≡ later)

-- in the stretch from the earlier to the later history each caller made its calls of these lines, one after another,
-- and was replied so; its log grew by their entries
pub record IsPhase (l : Limits) (m : Map) (earlier later : History) (lines : List Line)
    (old : List Log) (replies : List (List Reply)) (new : List Log) : Type 0 where
  pub goes_on : GoesOnTo earlier later
  pub replied : length replies ≡ l.callers
  pub logged : length new ≡ l.callers
  pub each : (caller : ℕ) → caller < l.callers →
      Session (AnswersWithin l m earlier later caller) (get_or old caller [])
      (calls_in caller lines) (get_or replies caller []) (get_or new caller [])

-- ---- all phases ----

-- phase after phase, each in the stretch behind the one before it, from the earlier to the later history
abbrev pub ArePhases : Limits → Map → History → List (List Line) → List Log →
    List (List (List Reply)) → History → List Log → Type 0
ArePhases l m earlier [] old replies later new = (replies ≡ []) × (new ≡ old) × (later ≡ earlier)
ArePhases l m earlier (own ∷ phases) old replies later new =
    (cut : History) × (logs : List Log) × (first : List (List Reply))
    × (others : List (List (List Reply))) × IsPhase l m earlier cut own old first logs
    × ArePhases l m cut phases logs others later new × (replies ≡ first ∷ others)

-- the text has the phases of the trace's lines, one after another over the whole history, which is legal; each log is
-- its caller's in it, and so has just the caller's changes
pub record IsExplainedBy (l : Limits) (m : Map) (lines : List Line) (h : History) (logs : List Log)
    (text : List ℕ) : Type 0 where
  pub replies : List (List (List Reply))
  pub text_is : text ≡ phases_text replies
  pub phases : ArePhases l m [] (phases_of lines) (replicate l.callers []) replies h logs
  pub legal : IsLegal m h
  pub by_callers : AllByRecursion (λ c. caller_of c < l.callers) h
  pub complete : AreLogsOf m h logs
