use Rattle.std.proofs.Common.{◌≤◌, vec_capacity}
use Rattle.word_layout.specs.Layout.{shape_of}
use Rattle.word_layout.specs.Shape.{first_group_of}
use Rattle.resting_table.specs.Resting.{TellPairsBefore, place_count}
use Rattle.resting_table.proofs.reading.pairs_of.Given as goal

abbrev pub invariant-loop-part : goal.invariant-loop-part
invariant-loop-part l =
    record {
      room : place_count (shape_of l.layout) ≤ vec_capacity l.pairs;
      tell : TellPairsBefore l.layout l.words (first_group_of (shape_of l.layout) l.part) l.pairs.items;
    }
