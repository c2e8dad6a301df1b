use Rattle.std.proofs.Common.{◌-◌, ℕ}
use Rattle.index_rule.specs.Hands.{IsHandOf, known, opening_of}
use Rattle.reader_epochs.specs.Marking.{AreMarks, Grows, LooksAt, passed_of}
use Rattle.reader_epochs.proofs.marks.Marks.check.Given as goal

abbrev pub invariant-loop-self : goal.invariant-loop-self
invariant-loop-self l =
    record {
      of : IsHandOf l.board l.hand;
      marks : AreMarks (opening_of l.board) l.self (known l.hand);
      looked : (many : ℕ) × Grows l.initial.self l.self many
          × LooksAt l.board l.initial.hand l.initial.self (passed_of l.initial.self) many l.hand;
    }

abbrev pub decreases-loop-self : goal.decreases-loop-self
decreases-loop-self l = l.callers - l.self.passed
