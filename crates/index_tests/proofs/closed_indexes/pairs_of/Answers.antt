use Rattle.std.proofs.Common.{◌∷◌, [], List, sym, subst}
use Rattle.xindex_core.specs.declared.pass.Pass.{Pass}
use Rattle.xindex_core.specs.Closing.{AreAllPasses}
use Rattle.index_tests.proofs.closed_indexes.pairs_of.Goals as goal

pub close-requires-clause-passes : goal.close-requires-clause-passes
close-requires-clause-passes g c =
    subst (λ (passes : List Pass). AreAllPasses c.args.index passes) (sym c.in_ok-all.ensures.items)
    (c.passes_in_order_are_all.ensures c.args.index (c.args.passes.0 ∷ c.args.passes.1 ∷ [])
    (c.requires.first, (c.requires.second, tt)) (sym c.requires.callers))
