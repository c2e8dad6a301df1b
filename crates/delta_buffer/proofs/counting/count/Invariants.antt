use Rattle.delta_buffer.proofs.LaneCounts.{HasCountedLanes}
use Rattle.delta_buffer.proofs.counting.count.Given as goal

abbrev pub invariant-loop-number : goal.invariant-loop-number
invariant-loop-number l = HasCountedLanes l.board l.group l.number l.count l.fn.hand l.hand
