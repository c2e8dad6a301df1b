-- How the modes `run` and `gen` end: under which status, and what holds at both ends then.
use Rattle.std.proofs.Common.{◌≡◌, ◌≢◌, ℕ, List, refl, sym, subst}
use Rattle.word_layout.specs.declared.limits.Limits.{Limits}
use Rattle.command_line.specs.declared.answers.Recipe.{Recipe}
use Rattle.line_session.specs.declared.texts.TextError.{TextError}
use Rattle.line_session.specs.Ends.{EndsState, ends_of}
use Rattle.line_session.specs.Texts.{TakesPart, TakesText}
use Rattle.xindex.specs.Generated.{Generates}
use Rattle.xindex.specs.Ran.{IsOutput, Runs, TellsOutput}
use Rattle.xindex.specs.Telling.{Tells}
use Rattle.xindex.specs.declared.status.Status.{Status}
use Rattle.xindex.specs.declared.status.Status.TheVariants.{Done, Usage, ReadFault, WriteFault, BadTrace, Memory, BadLimits, Limit}

-- ---- what is told ----

-- a text is told under its own status alone, where the sink does not fail and there is memory
pub own_told : (text : List ℕ) (own status : Status) (old new : EndsState) → status ≢ WriteFault →
    status ≢ Memory → Tells text own old new status → status ≡ own
own_told text own Done old new no_fault some tells = tells.0
own_told text own Usage old new no_fault some tells = tells.0
own_told text own ReadFault old new no_fault some tells = tells.0
own_told text own WriteFault old new no_fault some tells = absurd (no_fault refl)
own_told text own BadTrace old new no_fault some tells = tells.0
own_told text own Memory old new no_fault some tells = absurd (some refl)
own_told text own BadLimits old new no_fault some tells = tells.0
own_told text own Limit old new no_fault some tells = tells.0

-- the statuses under which a text is told
abbrev pub IsOwn : Status → Type 0
IsOwn Done = Unit {0}
IsOwn BadTrace = Unit {0}
IsOwn own = ⊥

own_output : (l : Limits) (text : List ℕ) (own : Status) (output : List ℕ) →
    IsOutput l text own output → IsOwn own
own_output l text Done output is = tt
own_output l text BadTrace output is = tt
own_output l text Usage output is = absurd is
own_output l text ReadFault output is = absurd is
own_output l text WriteFault output is = absurd is
own_output l text Memory output is = absurd is
own_output l text BadLimits output is = absurd is
own_output l text Limit output is = absurd is

-- what is told of a text is told under such a status
pub told_own : (l : Limits) (text : List ℕ) (status : Status) (old new : EndsState) →
    status ≢ WriteFault → status ≢ Memory →
    (own : Status) × (output : List ℕ) × IsOutput l text own output × Tells output own old new status →
    IsOwn status
told_own l text status old new no_fault some (own, output, is, tells) =
    subst IsOwn (sym (own_told output own status old new no_fault some tells))
    (own_output l text own output is)

-- a text is not told of by a fault of reading
pub output_no_read_fault : (l : Limits) (text : List ℕ) (old new : EndsState) (status : Status) →
    TellsOutput l text old new status → status ≢ ReadFault
output_no_read_fault l text old new ReadFault tells =
    absurd (told_own l text ReadFault old new (λ e. cc e) (λ e. cc e) tells)
output_no_read_fault l text old new Done tells = λ e. cc e
output_no_read_fault l text old new Usage tells = λ e. cc e
output_no_read_fault l text old new WriteFault tells = λ e. cc e
output_no_read_fault l text old new BadTrace tells = λ e. cc e
output_no_read_fault l text old new Memory tells = λ e. cc e
output_no_read_fault l text old new BadLimits tells = λ e. cc e
output_no_read_fault l text old new Limit tells = λ e. cc e

-- ---- a text that was run ----

module _ (l : Limits) (most : ℕ) (source sink now then : EndsState) where
  takes_text : (text : List ℕ) → TakesText most source now text →
      TakesText most (ends_of source sink) (ends_of now then) text
  takes_text text takes =
      record { took = takes.took; at_end = takes.at_end; below = takes.below }

  -- a whole text was read, and told of
  pub runs_whole : (text : List ℕ) (status : Status) → TakesText most source now text →
      TellsOutput l text sink then status →
      Runs l most (ends_of source sink) (ends_of now then) status
  runs_whole text Done takes tells = record {
    text = text;
    takes = takes_text text takes;
    tells = tells;
  }
  runs_whole text WriteFault takes tells = record {
    text = text;
    takes = takes_text text takes;
    tells = tells;
  }
  runs_whole text BadTrace takes tells = record {
    text = text;
    takes = takes_text text takes;
    tells = tells;
  }
  runs_whole text Memory takes tells = tells
  runs_whole text Usage takes tells =
      absurd (told_own l text Usage sink then (λ e. cc e) (λ e. cc e) tells)
  runs_whole text ReadFault takes tells =
      absurd (told_own l text ReadFault sink then (λ e. cc e) (λ e. cc e) tells)
  runs_whole text BadLimits takes tells =
      absurd (told_own l text BadLimits sink then (λ e. cc e) (λ e. cc e) tells)
  runs_whole text Limit takes tells =
      absurd (told_own l text Limit sink then (λ e. cc e) (λ e. cc e) tells)

  -- no whole text was read, and the sink was not asked
  pub takes_part : (why : TextError) → TakesPart most source now why →
      TakesPart most (ends_of source sink) (ends_of now then) why
  takes_part why takes =
      record { taken = takes.taken; took = takes.took; stops = takes.stops }

-- ---- a trace that was made ----

-- what holds at the sink holds at both ends
pub made_at_ends : (l : Limits) (recipe : Recipe) (source sink then : EndsState) (status : Status) →
    Generates l recipe sink then status →
    Generates l recipe (ends_of source sink) (ends_of source then) status
made_at_ends l recipe source sink then Done gen = gen
made_at_ends l recipe source sink then WriteFault gen = gen
made_at_ends l recipe source sink then Memory gen = gen
made_at_ends l recipe source sink then Usage gen = gen
made_at_ends l recipe source sink then ReadFault gen = gen
made_at_ends l recipe source sink then BadTrace gen = gen
made_at_ends l recipe source sink then BadLimits gen = gen
made_at_ends l recipe source sink then Limit gen = gen

-- the end of a text whose output was told
pub output_told : (l : Limits) (text : List ℕ) (own : Status) (output : List ℕ) (old new : EndsState)
    (status : Status) → IsOutput l text own output → Tells output own old new status →
    status ≢ Memory → TellsOutput l text old new status
output_told l text own output old new Done is tells some = (own, output, is, tells)
output_told l text own output old new WriteFault is tells some = (own, output, is, tells)
output_told l text own output old new Memory is tells some = absurd (some refl)
output_told l text own output old new Usage is tells some = (own, output, is, tells)
output_told l text own output old new ReadFault is tells some = (own, output, is, tells)
output_told l text own output old new BadTrace is tells some = (own, output, is, tells)
output_told l text own output old new BadLimits is tells some = (own, output, is, tells)
output_told l text own output old new Limit is tells some = (own, output, is, tells)
