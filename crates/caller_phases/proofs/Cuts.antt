-- The lines of a trace, phase by phase.
use Rattle.std.proofs.Common.{◌≡◌, ℕ, ◌+◌, ◌<◌, ◌≤◌, List, [], ◌∷◌, length, ap, arith}
use Rattle.std.specs.Prelude.{MatchOption, Option, None, Some}
use Rattle.trace_text.specs.declared.lines.Line.{Line}
use Rattle.trace_text.specs.declared.lines.Line.TheVariants.{Skip, Phase, Caller, Call}
use Rattle.caller_phases.specs.Calls.{first_phase, later_phases, phases_of}

-- the first phase has no more lines than all
pub first_short : (lines : List Line) → length (first_phase lines) ≤ length lines
first_short [] = omega arith
first_short (Phase ∷ lines) = omega arith
first_short (Skip ∷ lines) = let rest = first_short lines in omega arith
first_short (Caller next ∷ lines) = let rest = first_short lines in omega arith
first_short (Call request ∷ lines) = let rest = first_short lines in omega arith

-- the phases of the lines that are left
abbrev pub phases_left : Option (List Line) → List (List Line)
phases_left None = []
phases_left (Some lines) = phases_of lines

-- and how many lines that are, with one more for the phase that they begin
abbrev pub lines_left : Option (List Line) → ℕ
lines_left None = 0
lines_left (Some lines) = length lines + 1

-- behind the first phase fewer lines are left
pub cut_off : (lines : List Line) (more : Option (List Line)) →
    MatchOption more (later_phases lines ≡ [])
    (λ rest. (later_phases lines ≡ phases_of rest) × (length rest < length lines)) →
    (phases_of lines ≡ first_phase lines ∷ phases_left more) × (lines_left more < length lines + 1)
cut_off lines None cut = (ap (λ (z : List (List Line)). first_phase lines ∷ z) cut, omega arith)
cut_off lines (Some rest) cut =
    (ap (λ (z : List (List Line)). first_phase lines ∷ z) cut.0, (let fewer = cut.1 in omega arith))
