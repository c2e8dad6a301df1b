use Rattle.std.proofs.Common.{◌≤◌, vec_capacity}
use Rattle.word_layout.specs.Layout.{shape_of}
use Rattle.resting_table.specs.Reading.{HaveReadLanes}
use Rattle.resting_table.specs.Resting.{place_count}
use Rattle.resting_table.proofs.reading.read_group.Given as goal

abbrev pub invariant-loop-lane : goal.invariant-loop-lane
invariant-loop-lane l =
    record {
      room : place_count (shape_of l.layout) ≤ vec_capacity l.pairs;
      grown : vec_capacity l.initial.pairs ≤ vec_capacity l.pairs;
      read : HaveReadLanes l.layout l.words l.group l.lane l.index l.pairs.items;
    }
