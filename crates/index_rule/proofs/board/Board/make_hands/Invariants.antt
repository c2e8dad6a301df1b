use Rattle.std.proofs.Common.{◌≡◌, ◌+◌, ◌-◌, [], length}
use Rattle.word_layout.specs.Shape.{parts_in}
use Rattle.index_machine.specs.Words.{limits, shape}
use Rattle.index_rule.specs.Hands.{opening_of}
use Rattle.index_rule.specs.Opened.{AreNewHands}
use Rattle.index_rule.specs.Seats.{rest_of}
use Rattle.index_rule.proofs.board.Board.make_hands.Given as goal

abbrev pub invariant-loop-number : goal.invariant-loop-number
invariant-loop-number l =
    record {
      table : l.seat.table_id ≡ l.self.words.shared.table_id;
      all : l.last + 1
          ≡ (limits (opening_of l.self)).callers + parts_in (shape (opening_of l.self));
      seat : l.seat.me.0 ≡ rest_of (opening_of l.self) l.number (l.last + 1 - l.number);
      bare : l.seat.me.1 ≡ [];
      many : length l.hands.items ≡ l.number;
      hands : AreNewHands l.self 0 l.hands.items;
    }
