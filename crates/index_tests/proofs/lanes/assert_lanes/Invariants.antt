use Rattle.std.proofs.Common.{◌≡◌}
use Rattle.index_machine.specs.Lanes.{lanes}
use Rattle.index_rule.specs.Hands.{known, opening_of}
use Rattle.sorted_group.specs.Standing.{CanSearch}
use Rattle.index_tests.proofs.lanes.assert_lanes.Given as goal

abbrev pub invariant-loop-lane : goal.invariant-loop-lane
invariant-loop-lane g l =
    record {
      numbered : l.hand.number ≡ l.number;
      search : CanSearch l.board l.group l.hand;
      many : l.many ≡ lanes (opening_of l.board) l.group (known l.hand);
    }
