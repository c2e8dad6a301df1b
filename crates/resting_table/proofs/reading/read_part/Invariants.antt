use Rattle.std.proofs.Common.{◌≡◌, ◌+◌, ◌<◌, ◌≤◌, vec_capacity}
use Rattle.word_layout.specs.Layout.{shape_of}
use Rattle.word_layout.specs.Shape.{first_group_of}
use Rattle.index_machine.specs.declared.opening.Opening.{Opening}
use Rattle.index_machine.specs.Execution.{Execution}
use Rattle.index_machine.specs.OpeningRows.{opening_count}
use Rattle.resting_table.specs.Resting.{LeaveAtRest, TellPairsBefore, place_count}
use Rattle.resting_table.proofs.reading.read_part.Given as goal

abbrev pub invariant-loop-number : goal.invariant-loop-number
invariant-loop-number l =
    record {
      room : place_count (shape_of l.layout) ≤ vec_capacity l.pairs;
      grown : vec_capacity l.initial.pairs ≤ vec_capacity l.pairs;
      group : l.group ≡ first_group_of (shape_of l.layout) l.part + l._number;
      among : (o : Opening) (t : Execution) → LeaveAtRest l.layout l.words o t →
          l._number < opening_count o l.part;
      tell : TellPairsBefore l.layout l.words l.group l.pairs.items;
    }
