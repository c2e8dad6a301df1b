use Rattle.std.proofs.Common.{◌≡◌, length}
use Rattle.sorted_group.specs.Readers.{keys_of}
use Rattle.index_tests.proofs.arrays.assert_keys.Given as goal

abbrev pub invariant-loop-i : goal.invariant-loop-i
invariant-loop-i g l = length (keys_of l.keys) ≡ l.len
