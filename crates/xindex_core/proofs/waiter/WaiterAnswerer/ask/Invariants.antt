use Rattle.std.proofs.Common.{◌≡◌, ℕ}
use Rattle.xindex_core.specs.Waiting.{TriesAgain}
use Rattle.xindex_core.proofs.waiter.WaiterAnswerer.ask.Given as goal

abbrev pub invariant-loop : goal.invariant-loop
invariant-loop g l =
    record {
      index : l.self.index.now ≡ l.initial.self.index.now;
      times : ℕ;
      again : TriesAgain l.initial.self.index.now l.initial.self.pass l.call times l.self.pass;
    }
