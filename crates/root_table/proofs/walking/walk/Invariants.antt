use Rattle.std.proofs.Common.{◌+◌, ◌-◌}
use Rattle.machine_chain.specs.Chain.{pivot_of}
use Rattle.index_rule.specs.Hands.{known, opening_of}
use Rattle.root_table.proofs.Walked.{HasWalked}
use Rattle.root_table.proofs.walking.walk.Given as goal

abbrev pub invariant-loop-next : goal.invariant-loop-next
invariant-loop-next l = HasWalked l.board l.from l.key l.fn.hand l.group l.hand

-- the pivots rise to the key
abbrev pub decreases-loop-next : goal.decreases-loop-next
decreases-loop-next l = l.key + 1 - pivot_of (opening_of l.board) l.group (known l.hand)
