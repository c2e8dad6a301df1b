use Rattle.std.proofs.Common.{◌≡◌}
use Rattle.index_tests.proofs.waiters.waited.Given as goal

abbrev pub invariant-loop-call : goal.invariant-loop-call
invariant-loop-call g l = l.waiter.index.now ≡ l.index
