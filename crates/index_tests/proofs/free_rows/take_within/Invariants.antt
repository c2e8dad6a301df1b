use Rattle.index_machine.specs.Rows.{HoldsNone}
use Rattle.index_rule.specs.Hands.{known, opening_of}
use Rattle.index_tests.specs.Boards.{IsInside}
use Rattle.index_tests.proofs.free_rows.take_within.Given as goal

abbrev pub invariant-loop : goal.invariant-loop
invariant-loop l =
    record {
      inside : IsInside l.board l._number l.hand;
      none : HoldsNone (opening_of l.board) l.hand.number (known l.hand);
    }
