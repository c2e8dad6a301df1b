-- Where the lines that are left have no call, no line of the phase has one.
use Rattle.std.proofs.Common.{◌≡◌, ℕ, [], length}
use Rattle.caller_phases.specs.Calls.{calls_of, first_phase}
use Rattle.caller_phases.proofs.cutting.has_call.Given as goal

abbrev pub invariant-loop-line : goal.invariant-loop-line
invariant-loop-line l =
    (caller : ℕ) → ((present : ℕ) → calls_of caller present (first_phase l.rest) ≡ []) →
    (present : ℕ) → calls_of caller present (first_phase l.lines) ≡ []

abbrev pub decreases-loop-line : goal.decreases-loop-line
decreases-loop-line l = length (first_phase l.rest)
