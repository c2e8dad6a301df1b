use Rattle.std.proofs.Common.{◌≡◌, ◌<◌, ℕ, length, slice_index}
use Rattle.word_layout.specs.Layout.{shape_of}
use Rattle.index_rule.specs.Offsets.{offset_count, offset_of}
use Rattle.index_rule.proofs.memory.spread.Given as goal

abbrev pub invariant-loop-address : goal.invariant-loop-address
invariant-loop-address l =
    record {
      wide : length l.memory.items ≡ offset_count (shape_of l.layout);
      each : (a : ℕ) → a < l.address →
          slice_index l.memory.items (offset_of (shape_of l.layout) a)
          ≡ slice_index l.words.items a;
    }
