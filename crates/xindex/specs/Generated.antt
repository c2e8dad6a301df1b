-- A trace that was made of a mix, and what is written of it.
use Rattle.std.specs.Prelude.{◌≡◌, ◌++◌, ℕ, Bool, true, false, List, length, codes}
use Rattle.std.specs.List.{filter}
use Rattle.map_model.specs.Map.{Map}
use Rattle.word_layout.specs.declared.limits.Limits.{Limits}
use Rattle.command_line.specs.declared.answers.Print.{Print}
use Rattle.command_line.specs.declared.answers.Print.TheVariants.{Trace, Summary}
use Rattle.command_line.specs.declared.answers.Recipe.{Recipe}
use Rattle.wire_commands.specs.declared.reply.Reply.{Reply}
use Rattle.line_session.specs.Ends.{EndsState}
use Rattle.trace_text.specs.declared.counting.Form.TheVariants.{Value, NoValue, New, Old, Full, Worn, End}
use Rattle.trace_text.specs.declared.lines.Line.{Line}
use Rattle.trace_text.specs.declared.lines.Line.TheVariants.{Call}
use Rattle.trace_text.specs.Counts.{all_replies, count_of}
use Rattle.trace_text.specs.Text.{number_line}
use Rattle.trace_text.specs.Traces.{IsTrace}
use Rattle.ycsb_mix.specs.Mix.{text_of}
use Rattle.xindex.specs.Ran.{IsRun}
use Rattle.xindex.specs.Telling.{Tells}
use Rattle.xindex.specs.declared.status.Status.{Status}
use Rattle.xindex.specs.declared.status.Status.TheVariants.{Done, Memory}

-- the text of the trace that the recipe makes for so many callers
abbrev pub trace_of : ℕ → Recipe → List ℕ
trace_of callers recipe = text_of recipe.mix recipe.load recipe.ops callers recipe.seed

-- whether the line of a trace is a call
abbrev pub is_call : Line → Bool
is_call (Call request) = true
is_call line = false

-- the lines that tell how many replies of each form there are
abbrev pub counts_text : List Reply → List ℕ
counts_text replies =
    number_line (codes "value ") (count_of Value replies)
    ++ number_line (codes "none ") (count_of NoValue replies)
    ++ number_line (codes "new ") (count_of New replies)
    ++ number_line (codes "old ") (count_of Old replies)
    ++ number_line (codes "full ") (count_of Full replies)
    ++ number_line (codes "worn ") (count_of Worn replies)
    ++ number_line (codes "end ") (count_of End replies)

-- the summary of so many calls, these replies and so many final rows
abbrev pub summary_text : ℕ → List Reply → ℕ → List ℕ
summary_text calls replies rows =
    number_line (codes "calls ") calls ++ counts_text replies ++ number_line (codes "rows ") rows

-- the summary of a run of the trace
pub record IsSummary (l : Limits) (told : List Line) (text : List ℕ) : Type 0 where
  pub phases : List ℕ
  pub rows : Map
  pub run : IsRun l told phases rows
  pub text_is :
      text ≡ summary_text (length (filter is_call told)) (all_replies run.explained.replies) (length rows)

-- what is to be written of the trace that the recipe makes
abbrev pub IsPrinted : Print → Limits → Recipe → List ℕ → Type 0
IsPrinted Trace l recipe output = output ≡ trace_of l.callers recipe
IsPrinted Summary l recipe output =
    (told : List Line) × IsTrace l.callers (trace_of l.callers recipe) told
    × IsSummary l told output

-- what is to be written of the trace was told; or there was no memory, and nothing was written
abbrev pub Generates : Limits → Recipe → EndsState → EndsState → Status → Type 0
Generates l recipe old new Memory = new.written ≡ old.written
Generates l recipe old new status =
    (output : List ℕ) × IsPrinted recipe.print l recipe output × Tells output Done old new status
