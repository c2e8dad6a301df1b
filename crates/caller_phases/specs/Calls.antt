-- Who calls what, phase by phase, in the lines of a trace.
use Rattle.std.specs.Prelude.{ℕ, List, [], ◌∷◌, cond, ◌==◌}
use Rattle.wire_commands.specs.declared.request.Request.{Request}
use Rattle.trace_text.specs.declared.lines.Line.{Line}
use Rattle.trace_text.specs.declared.lines.Line.TheVariants.{Phase, Caller, Call}

-- the lines of the first phase, which a mark ends
abbrev pub first_phase : List Line → List Line
first_phase [] = []
first_phase (Phase ∷ lines) = []
first_phase (line ∷ lines) = line ∷ first_phase lines

-- the lines of each later phase: one begins behind each mark
abbrev pub later_phases : List Line → List (List Line)
later_phases [] = []
later_phases (Phase ∷ lines) = first_phase lines ∷ later_phases lines
later_phases (line ∷ lines) = later_phases lines

-- the lines of each phase
abbrev pub phases_of : List Line → List (List Line)
phases_of lines = first_phase lines ∷ later_phases lines

-- what a caller calls in the lines of a phase, of which the first are calls of the present caller
abbrev pub calls_of : ℕ → ℕ → List Line → List Request
calls_of caller present [] = []
calls_of caller present (Caller next ∷ lines) = calls_of caller next lines
calls_of caller present (Call request ∷ lines) =
    cond (present == caller) (request ∷ calls_of caller present lines)
    (calls_of caller present lines)
calls_of caller present (line ∷ lines) = calls_of caller present lines

-- what all callers call in these lines, in order
abbrev pub all_calls : List Line → List Request
all_calls [] = []
all_calls (Call request ∷ lines) = request ∷ all_calls lines
all_calls (line ∷ lines) = all_calls lines

-- what a caller calls in a phase, which begins with calls of caller 0
abbrev pub calls_in : ℕ → List Line → List Request
calls_in caller lines = calls_of caller 0 lines
