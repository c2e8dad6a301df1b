-- What the real ends do to the bytes of the reader and the writer in them, where these tell bytes.
use Rattle.std.specs.Prelude.{◌≡◌, ℕ, List, [], ◌++◌, Option, None, take, Result, Ok, Err}
use Rattle.std.specs.Io.KnownBytes.{Appends, Consumes, IsAtEnd, Keeps}
use Rattle.line_session.specs.declared.ends.Took.{Took}
use Rattle.line_session.specs.declared.ends.Took.TheVariants as took
use Rattle.line_session.specs.declared.ends.Gave.{Gave}
use Rattle.line_session.specs.declared.ends.Gave.TheVariants as gave
use Rattle.line_session.specs.Ends.{EndsState}

-- the bytes that a reader has left, where it tells them, and how many reads have failed
pub record InputState : Type 0 where
  pub bytes : Option (List ℕ)
  pub faults : ℕ

-- the bytes that a writer holds, where it tells them; those that wait to be given to it; how many bytes were taken
-- since the last flush; and how many writes and flushes have failed
pub record OutputState : Type 0 where
  pub bytes : Option (List ℕ)
  pub waiting : List ℕ
  pub held : ℕ
  pub faults : ℕ

-- a session sees of a real source its faults alone
abbrev pub source_state : InputState → EndsState
source_state stream =
    record { left = None; read_faults = stream.faults; written = None; held = 0; write_faults = 0 }

-- and of a real sink its faults, and how many bytes may not have gone out
abbrev pub sink_state : OutputState → EndsState
sink_state stream = record {
  left = None;
  read_faults = 0;
  written = None;
  held = stream.held;
  write_faults = stream.faults;
}

-- a read took the next bytes of the reader, or came to its end, or failed and took none
abbrev pub ReadsStream : Took → List ℕ → Option (List ℕ) → Option (List ℕ) → Type 0
ReadsStream (took.Bytes n) into old new = Consumes old new (take n into)
ReadsStream took.End into old new = IsAtEnd new × Keeps old new
ReadsStream took.Failed into old new = Keeps old new

-- the writer was given the first of the bytes that waited; the others wait, and behind them those that came
pub record Gives (came : List ℕ) (old new : OutputState) : Type 0 where
  pub front : List ℕ
  pub rest : List ℕ
  pub split : old.waiting ≡ front ++ rest
  pub given : Appends old.bytes new.bytes front
  pub waits : new.waiting ≡ rest ++ came

-- a write took the first bytes of the piece, and one that failed took none
abbrev pub WritesStream : Gave → List ℕ → OutputState → OutputState → Type 0
WritesStream (gave.Bytes n) piece old new = Gives (take n piece) old new
WritesStream gave.Failed piece old new = Gives [] old new

-- a flush gave the writer all bytes that waited, and one that failed a front of them
abbrev pub FlushesStream : {E : Type 0} → Result (Unit {0}) E → OutputState → OutputState → Type 0
FlushesStream (Ok done) old new = Appends old.bytes new.bytes old.waiting × (new.waiting ≡ [])
FlushesStream (Err failed) old new = Gives [] old new
