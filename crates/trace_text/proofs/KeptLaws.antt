-- Lines that are kept behind others.
use Rattle.std.proofs.Common.{◌≡◌, ◌≤◌, ℕ, List, [], ◌∷◌, ◌++◌, length, refl, ap, arith}
use Rattle.wire_commands.specs.declared.request.Request.TheVariants as request
use Rattle.trace_text.specs.declared.lines.Line.{Line}
use Rattle.trace_text.specs.declared.lines.Line.TheVariants.{Phase, Caller, Call}
use Rattle.trace_text.specs.declared.keeping.Kind.{Kind}
use Rattle.trace_text.specs.declared.keeping.Kind.TheVariants as kind
use Rattle.trace_text.specs.Halves.{whole}
use Rattle.trace_text.specs.Kept.{AreKept, lines_of}

-- lines that are kept behind others, of which these are the kinds and the words
pub record Joins (kinds more : List Kind) (words others : List ℕ) : Type 0 where
  pub kept : AreKept (kinds ++ more) (words ++ others)
  pub lines : lines_of (kinds ++ more) (words ++ others) ≡ lines_of kinds words ++ lines_of more others

-- one more line stands before both
joins_more : (line : Line) (kinds more : List Kind) (words others : List ℕ) → Joins kinds more words others
    → line ∷ lines_of (kinds ++ more) (words ++ others) ≡ (line ∷ lines_of kinds words) ++ lines_of more others
joins_more line kinds more words others joins = ap (λ (l : List Line). line ∷ l) joins.lines

pub joins : (kinds more : List Kind) (words others : List ℕ) → AreKept kinds words → AreKept more others
    → Joins kinds more words others
joins [] more [] others kept beside = record { kept = beside; lines = refl }
joins [] more (n ∷ words) others kept beside = absurd kept
joins (kind.Phase ∷ kinds) more words others kept beside =
    let rest = joins kinds more words others kept beside in
    record { kept = rest.kept; lines = joins_more Phase kinds more words others rest }
joins (kind.Caller ∷ kinds) more [] others kept beside = absurd kept
joins (kind.Caller ∷ kinds) more (n ∷ words) others kept beside =
    let rest = joins kinds more words others kept beside in
    record {
      kept = rest.kept;
      lines = joins_more (Caller n) kinds more words others rest;
    }
joins (kind.Get ∷ kinds) more [] others kept beside = absurd kept
joins (kind.Get ∷ kinds) more (n ∷ words) others kept beside =
    let rest = joins kinds more words others kept beside in
    record {
      kept = rest.kept;
      lines = joins_more (Call (request.Get n)) kinds more words others rest;
    }
joins (kind.WideGet ∷ kinds) more [] others kept beside = absurd kept
joins (kind.WideGet ∷ kinds) more (n ∷ []) others kept beside = absurd kept
joins (kind.WideGet ∷ kinds) more (n ∷ m ∷ words) others kept beside =
    let rest = joins kinds more words others kept beside in
    record {
      kept = rest.kept;
      lines = joins_more (Call (request.Get (whole n m))) kinds more words others rest;
    }
joins (kind.Put ∷ kinds) more [] others kept beside = absurd kept
joins (kind.Put ∷ kinds) more (n ∷ []) others kept beside = absurd kept
joins (kind.Put ∷ kinds) more (n ∷ m ∷ words) others kept beside =
    let rest = joins kinds more words others kept beside in
    record {
      kept = rest.kept;
      lines = joins_more (Call (request.Put n m)) kinds more words others rest;
    }
joins (kind.WidePut ∷ kinds) more [] others kept beside = absurd kept
joins (kind.WidePut ∷ kinds) more (n ∷ []) others kept beside = absurd kept
joins (kind.WidePut ∷ kinds) more (n ∷ m ∷ []) others kept beside = absurd kept
joins (kind.WidePut ∷ kinds) more (n ∷ m ∷ k ∷ []) others kept beside = absurd kept
joins (kind.WidePut ∷ kinds) more (n ∷ m ∷ k ∷ i ∷ words) others kept beside =
    let rest = joins kinds more words others kept beside in
    record {
      kept = rest.kept;
      lines = joins_more (Call (request.Put (whole n m) (whole k i))) kinds more words others rest;
    }
joins (kind.Remove ∷ kinds) more [] others kept beside = absurd kept
joins (kind.Remove ∷ kinds) more (n ∷ words) others kept beside =
    let rest = joins kinds more words others kept beside in
    record {
      kept = rest.kept;
      lines = joins_more (Call (request.Remove n)) kinds more words others rest;
    }
joins (kind.WideRemove ∷ kinds) more [] others kept beside = absurd kept
joins (kind.WideRemove ∷ kinds) more (n ∷ []) others kept beside = absurd kept
joins (kind.WideRemove ∷ kinds) more (n ∷ m ∷ words) others kept beside =
    let rest = joins kinds more words others kept beside in
    record {
      kept = rest.kept;
      lines = joins_more (Call (request.Remove (whole n m))) kinds more words others rest;
    }

-- there are no more lines than kinds
pub no_more : (kinds : List Kind) (words : List ℕ) → length (lines_of kinds words) ≤ length kinds
no_more [] words = omega arith
no_more (kind.Phase ∷ kinds) words = let rest = no_more kinds words in omega arith
no_more (kind.Caller ∷ kinds) [] = omega arith
no_more (kind.Caller ∷ kinds) (n ∷ words) = let rest = no_more kinds words in omega arith
no_more (kind.Get ∷ kinds) [] = omega arith
no_more (kind.Get ∷ kinds) (n ∷ words) = let rest = no_more kinds words in omega arith
no_more (kind.WideGet ∷ kinds) [] = omega arith
no_more (kind.WideGet ∷ kinds) (n ∷ []) = omega arith
no_more (kind.WideGet ∷ kinds) (n ∷ m ∷ words) = let rest = no_more kinds words in omega arith
no_more (kind.Put ∷ kinds) [] = omega arith
no_more (kind.Put ∷ kinds) (n ∷ []) = omega arith
no_more (kind.Put ∷ kinds) (n ∷ m ∷ words) = let rest = no_more kinds words in omega arith
no_more (kind.WidePut ∷ kinds) [] = omega arith
no_more (kind.WidePut ∷ kinds) (n ∷ []) = omega arith
no_more (kind.WidePut ∷ kinds) (n ∷ m ∷ []) = omega arith
no_more (kind.WidePut ∷ kinds) (n ∷ m ∷ k ∷ []) = omega arith
no_more (kind.WidePut ∷ kinds) (n ∷ m ∷ k ∷ i ∷ words) = let rest = no_more kinds words in omega arith
no_more (kind.Remove ∷ kinds) [] = omega arith
no_more (kind.Remove ∷ kinds) (n ∷ words) = let rest = no_more kinds words in omega arith
no_more (kind.WideRemove ∷ kinds) [] = omega arith
no_more (kind.WideRemove ∷ kinds) (n ∷ []) = omega arith
no_more (kind.WideRemove ∷ kinds) (n ∷ m ∷ words) = let rest = no_more kinds words in omega arith
