-- A text that is written as a whole, and the status that tells of it.
use Rattle.std.specs.Prelude.{◌≡◌, ℕ, List}
use Rattle.line_session.specs.Ends.{EndsState, HandsAllOn, HandsNotAllOn}
use Rattle.xindex.specs.declared.status.Status.{Status}
use Rattle.xindex.specs.declared.status.Status.TheVariants.{WriteFault, Memory}

-- the text was written and handed on under its own status; or the sink failed before all was, and that is the
-- status; or there was no memory, and nothing was written
abbrev pub Tells : List ℕ → Status → EndsState → EndsState → Status → Type 0
Tells text own old new WriteFault = HandsNotAllOn text old new
Tells text own old new Memory = new.written ≡ old.written
Tells text own old new status = (status ≡ own) × HandsAllOn text old new
