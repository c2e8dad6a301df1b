use Rattle.std.proofs.Common.{◌≡◌, ◌+◌, length}
use Rattle.std.specs.Io.KnownBytes.{prepend_known}
use Rattle.line_session.proofs.texts.read_text.Given as goal

-- the text so far was taken, none more than may be, and no fault was counted
abbrev pub invariant-loop-left : goal.invariant-loop-left
invariant-loop-left g l = record {
  took : (g.S.Ends.state l.initial.source).left ≡ prepend_known l.text.items (g.S.Ends.state l.source).left;
  limit : length l.text.items + l.left ≡ l.most;
  faults : (g.S.Ends.state l.source).read_faults ≡ (g.S.Ends.state l.initial.source).read_faults;
}

abbrev pub decreases-loop-left : goal.decreases-loop-left
decreases-loop-left g l = l.left
