use Rattle.std.proofs.Common.{◌≡◌, ℕ, ◌+◌, List, length}
use Rattle.std.specs.Io.KnownBytes.{prepend_known, append_known}
use Rattle.line_session.specs.Served.{SoFar}
use Rattle.line_session.proofs.serving.serve_one.Given as goal

-- the bytes so far were taken and answered, none more than may be, and no fault was counted
abbrev pub invariant-loop : goal.invariant-loop
invariant-loop g l = record {
  goes : (goal.iterator-loop g).can_next l.iterator';
  ends : (goal.iterator-loop g).is_finite l.iterator';
  taken : List ℕ;
  written : List ℕ;
  took : (g.S.Ends.state l.initial.source).left ≡ prepend_known taken (g.S.Ends.state l.source).left;
  told : (g.K.Ends.state l.sink).written ≡ append_known (g.K.Ends.state l.initial.sink).written written;
  limit : length taken + l.left ≡ l.most;
  so_far : SoFar g.A.Answerer.answers l.initial.answerer l.answerer taken written l.feed;
  read_faults : (g.S.Ends.state l.source).read_faults ≡ (g.S.Ends.state l.initial.source).read_faults;
  write_faults : (g.K.Ends.state l.sink).write_faults ≡ (g.K.Ends.state l.initial.sink).write_faults;
}
