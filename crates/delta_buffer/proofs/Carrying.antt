-- What a caller carries on over a walk: its read section, and a row of its own.
use Rattle.std.proofs.Common.{ℕ}
use Rattle.index_machine.specs.Conditions.{Valid}
use Rattle.index_machine.specs.Rows.{Holds}
use Rattle.index_rule.specs.declared.board.Board.{Board}
use Rattle.index_rule.specs.declared.hand.Hand.{Hand}
use Rattle.index_rule.specs.Hands.{IsHandOf, known, opening_of}
use Rattle.sorted_group.proofs.BufferLoads.{GoesOnInside, HasRowAsBefore, loads_inside, loads_keep_row}
use Rattle.delta_buffer.specs.Walks.{Walks}
use Rattle.delta_buffer.proofs.Links.{walk_loads}

-- over a walk the read section goes on
pub walk_inside : (b : Board) (g lane : ℕ) (h k : Hand) → IsHandOf b h →
    Valid (opening_of b) (known h) → Walks b g lane h k → GoesOnInside b h k
walk_inside b g lane h k of valid walks =
    loads_inside b g h k of valid walks.0 (walk_loads g lane walks.0 walks.1) walks.2

-- over a walk a row of one's own stays as it is
pub walk_keeps_row : (b : Board) (g lane p : ℕ) (h k : Hand) → IsHandOf b h → Walks b g lane h k →
    Holds (opening_of b) h.number p (known h) → HasRowAsBefore b p h k
walk_keeps_row b g lane p h k of walks held =
    loads_keep_row b g p h k of held walks.0 (walk_loads g lane walks.0 walks.1) walks.2
