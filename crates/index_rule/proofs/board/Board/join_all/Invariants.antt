use Rattle.std.proofs.Common.{◌≡◌, ◌++◌}
use Rattle.index_rule.specs.declared.hand.Hand.{Hand}
use Rattle.index_rule.specs.Ended.{AreOf, Includes, IncludesAll}
use Rattle.index_rule.proofs.board.Board.join_all.Given as goal

abbrev pub invariant-loop-hand : goal.invariant-loop-hand
invariant-loop-hand l =
    record {
      table : l.seat.table_id ≡ l.initial.seat.table_id;
      opened : l.seat.me.0.opening ≡ l.initial.seat.me.0.opening;
      whole : l.yielded ++ l.hand-iterator.rest.items ≡ l.fn.hands.items;
      left : AreOf l.self l.hand-iterator.rest.items;
      joined : IncludesAll l.seat.me.0 l.yielded;
      kept : (hand : Hand) → Includes l.initial.seat.me.0 hand → Includes l.seat.me.0 hand;
    }
