-- What a read and a write do to the bytes at the ends of a session, and what a failure counts.
use Rattle.std.specs.Prelude.{◌≡◌, ◌≢◌, ◌⊎◌, ℕ, ◌+◌, ◌-◌, ◌^◌, ◌≤◌, ◌<◌, min, List, [], ◌++◌, take, length, Option, Result, Ok, Err, IsErr}
use Rattle.std.specs.Io.KnownBytes.{prepend_known, append_known, IsAtEnd}
use Rattle.line_session.specs.declared.ends.Took.{Took}
use Rattle.line_session.specs.declared.ends.Took.TheVariants as took
use Rattle.line_session.specs.declared.ends.Gave.{Gave}
use Rattle.line_session.specs.declared.ends.Gave.TheVariants as gave

-- what contracts see of an end: the bytes that are left to read and those that were written, each where they are
-- told; how many of the last bytes written may be held back yet; and how many reads and how many writes have failed
pub record EndsState : Type 0 where
  pub left : Option (List ℕ)
  pub read_faults : ℕ
  pub written : Option (List ℕ)
  pub held : ℕ
  pub write_faults : ℕ

-- the same of the two ends of a session: its source is what is read, and its sink what is written
abbrev pub ends_of : EndsState → EndsState → EndsState
ends_of source sink = record {
  left = source.left;
  read_faults = source.read_faults;
  written = sink.written;
  held = sink.held;
  write_faults = sink.write_faults;
}

-- a count of 64 bits rose, or stands at its last number
pub record Rose (before now : ℕ) : Type 0 where
  pub later : before ≤ now
  pub counted : min (before + 1) (2 ^ 64 - 1) ≤ now

-- a failure is counted, and nothing else is
pub record Counts (failed : Type 0) (before now : ℕ) : Type 0 where
  pub rose : failed → Rose before now
  pub same : (failed → ⊥) → now ≡ before

-- a failed read is counted, and nothing else is
abbrev pub CountsRead : Type 0 → EndsState → EndsState → Type 0
CountsRead failed old new = Counts failed old.read_faults new.read_faults

-- a failed write is counted, and nothing else is
abbrev pub CountsWrite : Type 0 → EndsState → EndsState → Type 0
CountsWrite failed old new = Counts failed old.write_faults new.write_faults

-- a read took the next bytes of those that were left, or found none left, or failed and took none
abbrev pub HandsOut : Took → List ℕ → Option (List ℕ) → Option (List ℕ) → Type 0
HandsOut (took.Bytes n) into old new =
    (1 ≤ n) × (n ≤ length into) × (old ≡ prepend_known (take n into) new)
HandsOut took.End into old new = IsAtEnd old × (new ≡ old)
HandsOut took.Failed into old new = new ≡ old

-- a write appended the first bytes of its piece, or failed and appended none
abbrev pub Accepts : Gave → List ℕ → Option (List ℕ) → Option (List ℕ) → Type 0
Accepts (gave.Bytes n) piece old new =
    (1 ≤ n) × (n ≤ length piece) × (new ≡ append_known old (take n piece))
Accepts gave.Failed piece old new = new ≡ old

-- a write holds back at most the bytes that it took, and those that were held back before it
abbrev pub HoldsBack : Gave → ℕ → ℕ → Type 0
HoldsBack (gave.Bytes n) old new = new ≤ old + n
HoldsBack gave.Failed old new = new ≤ old

-- a flush leaves no byte held back, or failed and left some
abbrev pub HandsOn : {E : Type 0} → Result (Unit {0}) E → ℕ → ℕ → Type 0
HandsOn (Ok done) old new = new ≡ 0
HandsOn (Err failed) old new = (0 < new) × (new ≤ old)

-- what a read did to the bytes that are left, counted where it failed, and did nothing else
pub record Reads (result : Took) (into : List ℕ) (old new : EndsState) : Type 0 where
  pub bytes : HandsOut result into old.left new.left
  pub faults : CountsRead (result ≡ took.Failed) old new
  pub written : new.written ≡ old.written
  pub held : new.held ≡ old.held
  pub write_faults : new.write_faults ≡ old.write_faults

-- what a write did to the bytes that were written, counted where it failed, and did nothing else
pub record Writes (result : Gave) (piece : List ℕ) (old new : EndsState) : Type 0 where
  pub bytes : Accepts result piece old.written new.written
  pub held : HoldsBack result old.held new.held
  pub faults : CountsWrite (result ≡ gave.Failed) old new
  pub left : new.left ≡ old.left
  pub read_faults : new.read_faults ≡ old.read_faults

-- what a flush did to the bytes that were held back, counted where it failed, and did nothing else
pub record Flushes {E : Type 0} (result : Result (Unit {0}) E) (old new : EndsState) : Type 0 where
  pub held : HandsOn result old.held new.held
  pub written : new.written ≡ old.written
  pub faults : CountsWrite (IsErr result) old new
  pub left : new.left ≡ old.left
  pub read_faults : new.read_faults ≡ old.read_faults

-- a read took no more bytes than may be
abbrev pub TakesAtMost : Took → ℕ → Type 0
TakesAtMost (took.Bytes n) most = n ≤ most
TakesAtMost took most = Unit {0}

-- a front of the piece was written, and not all of it
pub record TakesFront (piece : List ℕ) (old new : Option (List ℕ)) : Type 0 where
  pub front : List ℕ
  pub lost : List ℕ
  pub split : piece ≡ front ++ lost
  pub some_lost : lost ≢ []
  pub told : new ≡ append_known old front

-- the piece was written, and no byte is held back
abbrev pub HandsAllOn : List ℕ → EndsState → EndsState → Type 0
HandsAllOn piece old new = (new.written ≡ append_known old.written piece) × (new.held ≡ 0)

-- a front of the piece was written and not all of it, or all was, and some byte is held back
abbrev pub HandsNotAllOn : List ℕ → EndsState → EndsState → Type 0
HandsNotAllOn piece old new =
    TakesFront piece old.written new.written
    ⊎ ((new.written ≡ append_known old.written piece) × (0 < new.held))
