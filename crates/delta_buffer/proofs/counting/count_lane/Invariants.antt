use Rattle.std.proofs.Common.{◌-◌}
use Rattle.index_machine.specs.Words.{limits}
use Rattle.index_rule.specs.Hands.{opening_of}
use Rattle.delta_buffer.proofs.RowWalks.{HasCounted}
use Rattle.delta_buffer.proofs.counting.count_lane.Given as goal

abbrev pub invariant-loop-next : goal.invariant-loop-next
invariant-loop-next l =
    HasCounted l.board l.lane.group l.lane.number l.fn.counted l.next l.count l.fn.hand l.hand

abbrev pub decreases-loop-next : goal.decreases-loop-next
decreases-loop-next l = (limits (opening_of l.board)).records - l.count
