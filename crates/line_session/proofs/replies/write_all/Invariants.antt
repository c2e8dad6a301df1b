use Rattle.std.proofs.Common.{◌≡◌, ◌++◌, ℕ, List, length}
use Rattle.std.specs.Io.KnownBytes.{append_known}
use Rattle.line_session.proofs.replies.write_all.Given as goal

-- a front of the piece was taken, and no fault was counted
abbrev pub invariant-loop-rest : goal.invariant-loop-rest
invariant-loop-rest g l = record {
  front : List ℕ;
  split : l.piece ≡ front ++ l.rest;
  written : (g.K.Ends.state l.sink).written ≡ append_known (g.K.Ends.state l.initial.sink).written front;
  faults : (g.K.Ends.state l.sink).write_faults ≡ (g.K.Ends.state l.initial.sink).write_faults;
}

abbrev pub decreases-loop-rest : goal.decreases-loop-rest
decreases-loop-rest g l = length l.rest
