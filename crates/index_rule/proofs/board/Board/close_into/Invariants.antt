use Rattle.std.proofs.Common.{◌≡◌, ◌<◌, ℕ, length, slice_index}
use Rattle.std.specs.Slots.{slots_items}
use Rattle.word_layout.specs.Layout.{shape_of}
use Rattle.index_rule.specs.Offsets.{offset_of}
use Rattle.index_rule.proofs.board.Board.close_into.Given as goal

abbrev pub invariant-loop-i : goal.invariant-loop-i
invariant-loop-i l =
    record {
      wide : length l.words.items ≡ l.count;
      same : (k : ℕ) → k < l.i →
          slice_index (slots_items l.closed.words) (offset_of (shape_of l.layout) k)
          ≡ slice_index l.words.items k;
    }
