use Rattle.std.proofs.Common.{◌≡◌, ◌++◌, ℕ, List, None, length}
use Rattle.line_session.specs.Served.{Continues}
use Rattle.line_session.proofs.serving.answer_piece.Given as goal

-- the bytes before the rest were taken, and no fault was counted
abbrev pub invariant-loop-request : goal.invariant-loop-request
invariant-loop-request g l = record {
  front : List ℕ;
  split : l.piece ≡ front ++ l.rest;
  part : Continues g.A.Answerer.answers l.initial.answerer l.answerer l.initial.feed l.feed (g.K.Ends.state l.initial.sink) (g.K.Ends.state l.sink) front None;
  faults : (g.K.Ends.state l.sink).write_faults ≡ (g.K.Ends.state l.initial.sink).write_faults;
}

abbrev pub decreases-loop-request : goal.decreases-loop-request
decreases-loop-request g l = length l.rest
