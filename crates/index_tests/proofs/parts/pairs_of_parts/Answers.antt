use Rattle.std.proofs.Common.{◌∷◌, [], List, sym, subst}
use Rattle.xindex_core.specs.declared.pass.Pass.{Pass}
use Rattle.xindex_core.specs.Closing.{AreAllPasses}
use Rattle.index_tests.proofs.Keepers.{new_keepers_are_all}
use Rattle.index_tests.proofs.parts.pairs_of_parts.Goals as goal

pub close_in-requires-clause-passes : goal.close_in-requires-clause-passes
close_in-requires-clause-passes g c =
    subst (λ (passes : List Pass). AreAllPasses c.args.index passes) (sym c.in_ok-all.ensures.items)
    (c.passes_in_order_are_all.ensures c.args.index (c.args.passes.0 ∷ c.args.passes.1 ∷ [])
    (c.requires.first, (c.requires.second, tt)) (sym c.requires.callers))

pub close_in-requires-clause-keepers : goal.close_in-requires-clause-keepers
close_in-requires-clause-keepers g c =
    new_keepers_are_all c.args.index c.args.keepers.items c.requires.keepers c.requires.each
