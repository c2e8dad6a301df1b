-- A text as the lines of a trace.
use Rattle.std.specs.Prelude.{ℕ, Bool, true, false, List}
use Rattle.trace_text.specs.declared.lines.Line.{Line}
use Rattle.trace_text.specs.declared.lines.Line.TheVariants.{Skip}
use Rattle.trace_text.specs.declared.traces.TraceError.{TraceError}
use Rattle.trace_text.specs.Lines.{Says}
use Rattle.trace_text.specs.TextLines.{HasFirstBadLine, IsCauseBy, LinesTell}

-- whether the line is not skipped
abbrev pub is_told : Line → Bool
is_told Skip = false
is_told line = true

-- the text is a trace for so many callers, whose lines say this, the skipped ones left out
abbrev pub IsTrace : ℕ → List ℕ → List Line → Type 0
IsTrace callers text told = LinesTell (Says callers) is_told text told

-- some line of the text is bad in a trace, and the first such line has this number
abbrev pub HasFirstBad : ℕ → List ℕ → ℕ → Type 0
HasFirstBad callers text number = HasFirstBadLine (Says callers) text number

-- why a text is not read as a trace for so many callers
abbrev pub IsCause : ℕ → List ℕ → TraceError → Type 0
IsCause callers text error = IsCauseBy (Says callers) text error
