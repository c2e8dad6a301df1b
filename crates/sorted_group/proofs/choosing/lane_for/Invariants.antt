use Rattle.std.proofs.Common.{◌-◌}
use Rattle.sorted_group.proofs.LaneChoice.{IsChoosing}
use Rattle.sorted_group.proofs.choosing.lane_for.Given as goal

abbrev pub invariant-loop-low : goal.invariant-loop-low
invariant-loop-low l = IsChoosing l.board l.group l.key l.low l.high l.fn.hand l.hand

abbrev pub decreases-loop-low : goal.decreases-loop-low
decreases-loop-low l = l.high - l.low
