use Rattle.std.proofs.Common.{◌≡◌, ◌≤◌, ◌+◌, ◌++◌, length, vec_capacity}
use Rattle.xindex_core.specs.Closing.{keeping_hands}
use Rattle.xindex_core.proofs.closing.with_keepers.Given as goal

abbrev pub invariant-loop-keeper : goal.invariant-loop-keeper
invariant-loop-keeper l =
    record {
      room : length l.hands.items + length l.keeper-iterator.rest.items ≤ vec_capacity l.hands;
      whole : l.hands.items ++ keeping_hands l.keeper-iterator.rest.items
          ≡ l.fn.hands.items ++ keeping_hands l.fn.keepers.items;
    }
