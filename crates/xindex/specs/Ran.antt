-- A trace that was read as one text and run over a new index, and what is written for it.
use Rattle.std.specs.Prelude.{◌≡◌, ◌++◌, ℕ, List, [], codes, decimal}
use Rattle.map_model.specs.History.{History, after}
use Rattle.map_model.specs.Logs.{Log}
use Rattle.map_model.specs.Map.{Map}
use Rattle.word_layout.specs.declared.limits.Limits.{Limits}
use Rattle.line_session.specs.declared.texts.TextError.TheVariants as cause
use Rattle.line_session.specs.Ends.{EndsState}
use Rattle.line_session.specs.Texts.{TakesPart, TakesText}
use Rattle.trace_text.specs.declared.lines.Line.{Line}
use Rattle.trace_text.specs.Traces.{HasFirstBad, IsTrace}
use Rattle.trace_text.specs.Transcripts.{rows_text}
use Rattle.caller_phases.specs.Calls.{all_calls}
use Rattle.caller_phases.specs.Enough.{HasEnough, HaveNoRefusal}
use Rattle.caller_phases.specs.Explained.{IsExplainedBy}
use Rattle.xindex.specs.Telling.{Tells}
use Rattle.xindex.specs.declared.status.Status.{Status}
use Rattle.xindex.specs.declared.status.Status.TheVariants.{Done, ReadFault, BadTrace, Memory, Limit}

-- one history explains the text of all phases of the trace, over an index that was opened empty with these limits,
-- and these pairs are what the history leaves; where there is enough for all calls, none was refused
pub record IsRun (l : Limits) (told : List Line) (text : List ℕ) (rows : Map) : Type 0 where
  pub history : History
  pub logs : List Log
  pub explained : IsExplainedBy l [] told history logs text
  pub left : rows ≡ after [] history
  pub complete : HasEnough l (all_calls told) → HaveNoRefusal explained.replies

-- the text of all phases of the trace, and behind it the rows that are left
pub record IsTranscript (l : Limits) (told : List Line) (text : List ℕ) : Type 0 where
  pub phases : List ℕ
  pub rows : Map
  pub run : IsRun l told phases rows
  pub text_is : text ≡ phases ++ rows_text rows

-- the line that is written for a text whose first bad line has this number
abbrev pub bad_line : ℕ → List ℕ
bad_line number = codes "bad line " ++ decimal number ++ codes "\n"

-- what is to be written for a whole text, and under which status: the transcript of a trace, or its first bad line
abbrev pub IsOutput : Limits → List ℕ → Status → List ℕ → Type 0
IsOutput l text Done output =
    (told : List Line) × IsTrace l.callers text told × IsTranscript l told output
IsOutput l text BadTrace output =
    (number : ℕ) × HasFirstBad l.callers text number × (output ≡ bad_line number)
IsOutput l text status output = ⊥

-- what is to be written for a whole text was told; or there was no memory, and nothing was written
abbrev pub TellsOutput : Limits → List ℕ → EndsState → EndsState → Status → Type 0
TellsOutput l text old new Memory = new.written ≡ old.written
TellsOutput l text old new status =
    (own : Status) × (output : List ℕ) × IsOutput l text own output
    × Tells output own old new status

-- a whole text was read, and what is to be written for it was told
pub record TellsOfText (l : Limits) (most : ℕ) (old new : EndsState) (status : Status) : Type 0 where
  pub text : List ℕ
  pub takes : TakesText most old new text
  pub tells : TellsOutput l text old new status

-- a text was run as a trace; or no whole text was read, or there was no memory, and nothing was written
abbrev pub Runs : Limits → ℕ → EndsState → EndsState → Status → Type 0
Runs l most old new ReadFault =
    TakesPart most old new cause.ReadFault × (new.written ≡ old.written)
Runs l most old new Limit = TakesPart most old new cause.Limit × (new.written ≡ old.written)
Runs l most old new Memory = new.written ≡ old.written
Runs l most old new status = TellsOfText l most old new status
