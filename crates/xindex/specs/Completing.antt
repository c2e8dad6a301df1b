-- When a mode has all that it reads, so that it ends by no fault of the input.
use Rattle.std.specs.Prelude.{◌≡◌, ℕ, ◌<◌, List, Some, length}
use Rattle.command_line.specs.declared.answers.Command.{Command}
use Rattle.command_line.specs.declared.answers.Mode.{Mode}
use Rattle.command_line.specs.declared.answers.Mode.TheVariants.{Pipe, Run, Gen}
use Rattle.line_session.specs.Ends.{EndsState}
use Rattle.trace_text.specs.declared.lines.Line.{Line}
use Rattle.trace_text.specs.Traces.{IsTrace}
use Rattle.xindex.specs.declared.status.Status.{Status}
use Rattle.xindex.specs.declared.status.Status.TheVariants.{Done, ReadFault, WriteFault, Memory}

-- these bytes are left to read, which is told, and they end before the limit
abbrev pub IsInput : ℕ → EndsState → List ℕ → Type 0
IsInput most ends bytes = (ends.left ≡ Some bytes) × (length bytes < most)

-- the mode has what it reads: `pipe` an input that ends before the limit, `run` one that is a trace, `gen` nothing
abbrev pub HasItsInput : Mode → Command → EndsState → Type 0
HasItsInput Pipe command ends = (bytes : List ℕ) × IsInput command.bytes ends bytes
HasItsInput Run command ends =
    (bytes : List ℕ) × (told : List Line) × IsInput command.bytes ends bytes
    × IsTrace command.limits.callers bytes told
HasItsInput Gen command ends = Unit {0}

-- the mode ran to its end, or there was no memory, or an end failed
abbrev pub BlamesNoInput : Status → Type 0
BlamesNoInput Done = Unit {0}
BlamesNoInput ReadFault = Unit {0}
BlamesNoInput WriteFault = Unit {0}
BlamesNoInput Memory = Unit {0}
BlamesNoInput status = ⊥
