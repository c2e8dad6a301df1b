-- What the lines of a trace say, a line of a trace may say.
use Rattle.std.proofs.Common.{ℕ, List}
use Rattle.std.specs.List.{AllByRecursion}
use Rattle.trace_text.specs.declared.lines.Line.{Line}
use Rattle.trace_text.specs.declared.lines.Line.TheVariants.{Skip, Phase, Caller, Call}
use Rattle.trace_text.specs.Lines.{Says, IsLineFor}
use Rattle.trace_text.specs.Traces.{is_told, IsTrace}
use Rattle.trace_text.proofs.OnceLaws.{told_have}

-- what a line says is what a line of a trace may say
said_fits : (callers : ℕ) (line : List ℕ) (said : Line) → Says callers line said
    → IsLineFor callers said
said_fits callers line Skip says = tt
said_fits callers line Phase says = tt
said_fits callers line (Caller caller) says = says.2.2.below
said_fits callers line (Call request) says = says.2

-- the lines of a trace are such lines
pub trace_fits : (callers : ℕ) (text : List ℕ) (told : List Line) → IsTrace callers text told
    → AllByRecursion (IsLineFor callers) told
trace_fits callers text told trace =
    told_have (Says callers) is_told (IsLineFor callers) text told
    (λ line said says is. said_fits callers line said says) trace
