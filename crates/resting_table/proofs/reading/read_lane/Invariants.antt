use Rattle.std.proofs.Common.{◌≡◌, ◌<◌, ◌≤◌, ◌-◌, ◌^◌, ◌==◌, true, slice_index, vec_capacity}
use Rattle.std.specs.Bool.{if◌then◌else◌}
use Rattle.word_layout.specs.Layout.{shape_of}
use Rattle.index_machine.specs.declared.opening.Opening.{Opening}
use Rattle.index_machine.specs.Execution.{Execution}
use Rattle.index_machine.specs.Lanes.{lanes}
use Rattle.index_machine.specs.OpeningRows.{is_in_opening_chain}
use Rattle.resting_table.specs.Resting.{LeaveAtRest, place_count}
use Rattle.resting_table.proofs.LaneReading.{ReadsLane}
use Rattle.resting_table.proofs.reading.read_lane.Given as goal

abbrev pub invariant-loop-next : goal.invariant-loop-next
invariant-loop-next l =
    record {
      room : place_count (shape_of l.layout) ≤ vec_capacity l.pairs;
      grown : vec_capacity l.initial.pairs ≤ vec_capacity l.pairs;
      read : (o : Opening) (t : Execution) (rest : LeaveAtRest l.layout l.words o t)
          (chained : is_in_opening_chain o l.group ≡ true) (is_lane : l.lane < lanes o l.group t) →
          ReadsLane o t rest.valid rest.none_rebuilt l.group chained l.lane is_lane l.index l.next l.pairs.items;
    }

-- the keys rise
abbrev pub decreases-loop-next : goal.decreases-loop-next
decreases-loop-next l = if l.next == 0 then 0 else (2 ^ 64 - slice_index l.words l.next)
