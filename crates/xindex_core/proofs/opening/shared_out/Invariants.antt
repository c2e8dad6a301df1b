use Rattle.std.proofs.Common.{◌≡◌, ◌⊎◌, ◌+◌, ◌≤◌, ◌++◌, length}
use Rattle.index_rule.specs.Opened.{AreNewHands}
use Rattle.xindex_core.specs.Passes.{AreNewKeepers, AreNewPasses, limits_of_index}
use Rattle.xindex_core.proofs.opening.shared_out.Given as goal

abbrev pub invariant-loop-hand : goal.invariant-loop-hand
invariant-loop-hand l =
    record {
      whole : l.yielded ++ l.hand-iterator.rest.items ≡ l.fn.hands.items;
      left : AreNewHands l.index.board (length l.yielded) l.hand-iterator.rest.items;
      passes : AreNewPasses l.index 0 l.passes.items;
      keepers : AreNewKeepers l.index 0 l.keepers.items;
      many : length l.passes.items + length l.keepers.items ≡ length l.yielded;
      few : length l.passes.items ≤ (limits_of_index l.index).callers;
      in_order : (length l.keepers.items ≡ 0) ⊎ (length l.passes.items ≡ (limits_of_index l.index).callers);
    }
