use Rattle.std.proofs.Common.{◌-◌}
use Rattle.root_table.proofs.SlotChoice.{IsChoosing}
use Rattle.root_table.proofs.finding.last_slot.Given as goal

abbrev pub invariant-loop-low : goal.invariant-loop-low
invariant-loop-low l = IsChoosing l.board l.slots l.key l.low l.high l.fn.hand l.hand

abbrev pub decreases-loop-low : goal.decreases-loop-low
decreases-loop-low l = l.high - l.low
