use Rattle.std.proofs.Common.{◌≡◌, ◌+◌, ◌++◌, List, length}
use Rattle.xindex_core.specs.declared.pass.Pass.{Pass}
use Rattle.xindex_core.specs.Passes.{AreNewPasses, IsPassOf, known_to, log_of, number_of}
use Rattle.xindex.specs.Served.{AreTold}
use Rattle.xindex.proofs.serving.told_all.Given as goal

abbrev pub invariant-loop-other : goal.invariant-loop-other
invariant-loop-other l =
    record {
      first : IsPassOf l.index l.first;
      number : number_of l.first ≡ 0;
      known : known_to l.first ≡ known_to l.initial.first;
      log : log_of l.first ≡ log_of l.initial.first;
      told : List Pass;
      new : List Pass;
      split : told ++ new ≡ l.other-items;
      many : length told ≡ l.other-index;
      are_told : AreTold l.index (known_to l.first) 1 told;
      are_new : AreNewPasses l.index (1 + l.other-index) new;
    }
