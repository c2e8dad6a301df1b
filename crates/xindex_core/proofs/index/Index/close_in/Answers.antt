use Rattle.std.proofs.Common.{List, ◌++◌, ap, ◌∙◌, sym, subst}
use Rattle.index_rule.specs.declared.hand.Hand.{Hand}
use Rattle.xindex_core.specs.Closing.{AreGivenBack, IsReadBack, keeping_hands}
use Rattle.xindex_core.proofs.AllPasses.{closed, given_back}
use Rattle.xindex_core.proofs.index.Index.close_in.Goals as goal

pub read_back-requires-clause-hands : goal.read_back-requires-clause-hands
read_back-requires-clause-hands c =
    let keeping = keeping_hands c.args.keepers.items in
    subst (λ (hands : List Hand). AreGivenBack c.args.self hands)
    (sym (c.with_keepers-hands.ensures
    ∙ ap (λ (hands : List Hand). hands ++ keeping) c.with_passes.ensures.hands))
    (given_back c.args.self c.args.passes.items c.args.keepers.items c.requires.passes c.requires.keepers)

pub returns-clause-closed : goal.returns-clause-closed
returns-clause-closed c =
    let keeping = keeping_hands c.args.keepers.items in
    closed c.args.self c.args.passes.items c.args.keepers.items c.read_back.result.items
    c.requires.passes c.requires.keepers
    (subst (λ (hands : List Hand). IsReadBack c.args.self hands c.read_back.result.items)
    (c.with_keepers-hands.ensures
    ∙ ap (λ (hands : List Hand). hands ++ keeping) c.with_passes.ensures.hands)
    c.read_back.ensures)
