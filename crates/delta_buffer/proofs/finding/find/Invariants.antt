use Rattle.index_rule.specs.Hands.{known, opening_of}
use Rattle.delta_buffer.proofs.Links.{rise_left}
use Rattle.delta_buffer.proofs.Stepping.{IsOn}
use Rattle.delta_buffer.proofs.finding.find.Given as goal

abbrev pub invariant-loop-next : goal.invariant-loop-next
invariant-loop-next l = IsOn l.board l.lane.group l.lane.number l.key l.before l.next l.fn.hand l.hand

abbrev pub decreases-loop-next : goal.decreases-loop-next
decreases-loop-next l = rise_left (opening_of l.board) l.key l.next (known l.hand)
