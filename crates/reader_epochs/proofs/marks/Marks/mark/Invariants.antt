use Rattle.std.proofs.Common.{◌≡◌, ◌<◌, ℕ, length, slice_index}
use Rattle.index_machine.specs.Execution.{Continues}
use Rattle.index_rule.specs.Hands.{IsHandOf, MakesAll, known}
use Rattle.reader_epochs.specs.Marking.{IsMark, epoch_loads}
use Rattle.reader_epochs.proofs.marks.Marks.mark.Given as goal

abbrev pub invariant-loop-caller : goal.invariant-loop-caller
invariant-loop-caller l =
    record {
      room : length l.words ≡ 64;
      of : IsHandOf l.board l.hand;
      continues : Continues (known l.began.value) (known l.hand);
      steps : MakesAll l.board l.began.value (epoch_loads l.words l.caller) l.hand;
      told : (caller : ℕ) → caller < l.caller →
          IsMark caller (slice_index l.words caller) (known l.began.value) (known l.hand);
    }
