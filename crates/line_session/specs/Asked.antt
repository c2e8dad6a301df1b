-- Which lines of the bytes that a session took were asked, by how it ended.
use Rattle.std.specs.Prelude.{◌≡◌, ◌≢◌, ℕ, ◌<◌, ◌≤◌, List, [], ◌∷◌, ◌++◌, length, Option}
use Rattle.std.specs.List.{AllByRecursion}
use Rattle.std.specs.Io.KnownBytes.{IsAtEnd}
use Rattle.wire_commands.specs.declared.request.Request.{Request}
use Rattle.wire_commands.specs.declared.request.Request.TheVariants.{Quit}
use Rattle.wire_commands.specs.declared.reply.Reply.{Reply}
use Rattle.wire_commands.specs.Replies.{line_of}
use Rattle.wire_commands.specs.Stream.{Asks, AsksToEnd}
use Rattle.line_session.specs.declared.ends.Ended.{Ended}
use Rattle.line_session.specs.declared.ends.Ended.TheVariants as ended
use Rattle.line_session.specs.Session.{lines_of}

-- where a session stopped: at the end of the input, or so many bytes after the last line that it asked
pub data Stop : Type 0 where
  at_end : Stop
  after_line : ℕ → Stop

-- no request ends the session
abbrev pub GoesOn : List Request → Type 0
GoesOn requests = AllByRecursion (λ r. r ≢ Quit) requests

-- only the last request may have ended the session
abbrev pub StopsAtLast : List Request → Type 0
StopsAtLast requests =
    (before : List Request) × (last : Request) × (requests ≡ before ++ last ∷ []) × GoesOn before

-- the requests are those of the first whole lines, and so many bytes follow them
pub record AreFirstLines (bytes : List ℕ) (requests : List Request) (dropped : ℕ) : Type 0 where
  pub front : List ℕ
  pub back : List ℕ
  pub split : bytes ≡ front ++ back
  pub asks : Asks front requests []
  pub length_is : length back ≡ dropped

-- the requests are those of the whole lines, and a rest is not asked
abbrev pub AreWholeLines : List ℕ → List Request → Type 0
AreWholeLines bytes requests = (rest : List ℕ) × Asks bytes requests rest

-- the requests are those of the lines up to the stop; a rest of a line is one only at the end of the input
abbrev pub AreAsked : Stop → List ℕ → List Request → Type 0
AreAsked at_end bytes requests = AsksToEnd bytes requests
AreAsked (after_line dropped) bytes requests = AreFirstLines bytes requests dropped

-- which requests were asked of the bytes taken, by how the session ended and where it stopped
abbrev pub Covers : Ended → Stop → List ℕ → List Request → Type 0
Covers ended.End stop bytes requests = AsksToEnd bytes requests × GoesOn requests
Covers ended.Quit stop bytes requests =
    AreAsked stop bytes requests
    × ((before : List Request) × (requests ≡ before ++ Quit ∷ []) × GoesOn before)
Covers ended.Limit stop bytes requests = AreWholeLines bytes requests × GoesOn requests
Covers ended.ReadFault stop bytes requests = AreWholeLines bytes requests × GoesOn requests
Covers ended.WriteFault stop bytes requests = AreAsked stop bytes requests × StopsAtLast requests

-- of the last reply something is missing, and all before it was written
pub record LacksOfLast (replies : List Reply) (written : List ℕ) : Type 0 where
  pub before : List Reply
  pub last : Reply
  pub replies_are : replies ≡ before ++ last ∷ []
  pub part : List ℕ
  pub lost : List ℕ
  pub line_is : line_of last ≡ part ++ lost
  pub some_lost : lost ≢ []
  pub written_is : written ≡ lines_of before ++ part

-- all replies were written whole, but where the sink failed: then all but the end of the last one
abbrev pub Wrote : Ended → List Reply → List ℕ → Type 0
Wrote ended.WriteFault replies written = LacksOfLast replies written
Wrote ended replies written = written ≡ lines_of replies

-- how many bytes were taken, under the byte limit
abbrev pub KeepsLimit : Ended → ℕ → ℕ → Type 0
KeepsLimit ended.Limit most taken = taken ≡ most
KeepsLimit ended.End most taken = taken < most
KeepsLimit ended.ReadFault most taken = taken < most
KeepsLimit ended most taken = taken ≤ most

-- the end of the input is an end only where the source has nothing left and the limit was not reached;
-- before it, what follows the last line came with it in one piece
abbrev pub IsStop : Stop → Option (List ℕ) → ℕ → ℕ → Type 0
IsStop at_end left most taken = IsAtEnd left × (taken < most)
IsStop (after_line dropped) left most taken = dropped < 4096
