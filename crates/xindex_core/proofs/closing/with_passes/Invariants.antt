use Rattle.std.proofs.Common.{◌≡◌, ◌≤◌, ◌+◌, ◌++◌, length, vec_capacity}
use Rattle.xindex_core.specs.Closing.{calling_hands}
use Rattle.xindex_core.proofs.closing.with_passes.Given as goal

abbrev pub invariant-loop-pass : goal.invariant-loop-pass
invariant-loop-pass l =
    record {
      room : length l.hands.items + length l.pass-iterator.rest.items ≤ vec_capacity l.hands;
      many : length l.hands.items + length l.pass-iterator.rest.items ≡ length l.fn.passes.items;
      kept : vec_capacity l.fn.hands ≤ vec_capacity l.hands;
      whole : l.hands.items ++ calling_hands l.pass-iterator.rest.items ≡ calling_hands l.fn.passes.items;
    }
