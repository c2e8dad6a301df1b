-- How the lines of a trace are kept: their kinds, and beside them the words of their numbers, one line's behind the
-- other's.
use Rattle.std.specs.Prelude.{ℕ, List, [], ◌∷◌}
use Rattle.wire_commands.specs.declared.request.Request.TheVariants as request
use Rattle.trace_text.specs.declared.lines.Line.{Line}
use Rattle.trace_text.specs.declared.lines.Line.TheVariants.{Phase, Caller, Call}
use Rattle.trace_text.specs.declared.keeping.Kind.{Kind}
use Rattle.trace_text.specs.declared.keeping.Kind.TheVariants as kind
use Rattle.trace_text.specs.Halves.{whole}

-- the lines of these kinds with the numbers of these words, up to the first that lacks one
abbrev pub lines_of : List Kind → List ℕ → List Line
lines_of [] words = []
lines_of (kind.Phase ∷ kinds) words = Phase ∷ lines_of kinds words
lines_of (kind.Caller ∷ kinds) (caller ∷ words) = Caller caller ∷ lines_of kinds words
lines_of (kind.Get ∷ kinds) (key ∷ words) = Call (request.Get key) ∷ lines_of kinds words
lines_of (kind.WideGet ∷ kinds) (high ∷ low ∷ words) =
    Call (request.Get (whole high low)) ∷ lines_of kinds words
lines_of (kind.Put ∷ kinds) (key ∷ value ∷ words) =
    Call (request.Put key value) ∷ lines_of kinds words
lines_of (kind.WidePut ∷ kinds) (high ∷ low ∷ above ∷ below ∷ words) =
    Call (request.Put (whole high low) (whole above below)) ∷ lines_of kinds words
lines_of (kind.Remove ∷ kinds) (key ∷ words) = Call (request.Remove key) ∷ lines_of kinds words
lines_of (kind.WideRemove ∷ kinds) (high ∷ low ∷ words) =
    Call (request.Remove (whole high low)) ∷ lines_of kinds words
lines_of kinds words = []

-- the words are just those that lines of these kinds have
abbrev pub AreKept : List Kind → List ℕ → Type 0
AreKept [] [] = Unit {0}
AreKept (kind.Phase ∷ kinds) words = AreKept kinds words
AreKept (kind.Caller ∷ kinds) (caller ∷ words) = AreKept kinds words
AreKept (kind.Get ∷ kinds) (key ∷ words) = AreKept kinds words
AreKept (kind.WideGet ∷ kinds) (high ∷ low ∷ words) = AreKept kinds words
AreKept (kind.Put ∷ kinds) (key ∷ value ∷ words) = AreKept kinds words
AreKept (kind.WidePut ∷ kinds) (high ∷ low ∷ above ∷ below ∷ words) = AreKept kinds words
AreKept (kind.Remove ∷ kinds) (key ∷ words) = AreKept kinds words
AreKept (kind.WideRemove ∷ kinds) (high ∷ low ∷ words) = AreKept kinds words
AreKept kinds words = ⊥
