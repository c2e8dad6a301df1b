use Rattle.std.proofs.Common.{◌≤◌, vec_capacity}
use Rattle.word_layout.specs.Layout.{shape_of}
use Rattle.resting_table.specs.Reading.{HaveRead}
use Rattle.resting_table.specs.Resting.{place_count}
use Rattle.resting_table.proofs.reading.read_array.Given as goal

abbrev pub invariant-loop-index : goal.invariant-loop-index
invariant-loop-index l =
    record {
      room : place_count (shape_of l.layout) ≤ vec_capacity l.pairs;
      grown : vec_capacity l.initial.pairs ≤ vec_capacity l.pairs;
      read : HaveRead l.layout l.words l.group (λ _ _. l.end) l.index l.pairs.items;
    }
