use Rattle.std.proofs.Common.{List, [], ◌∷◌, ◌≡◌, ◌++◌, ap, ◌∙◌, sym, subst}
use Rattle.index_rule.specs.declared.hand.Hand.{Hand}
use Rattle.xindex_core.specs.Closing.{AreGivenBack, IsReadBack}
use Rattle.xindex_core.proofs.AllPasses.{closed, given_back, one_keeper}
use Rattle.xindex_core.proofs.index.Index.close.Goals as goal

pub read_back-requires-clause-hands : goal.read_back-requires-clause-hands
read_back-requires-clause-hands c =
    let keeper = c.args.keeper in
    let pushed : c.push.new.self.items ≡ c.with_passes-hands.result.items ++ keeper.hand ∷ [] =
    rw c.unwrap.ensures at c.push.ensures.items in
    subst (λ (hands : List Hand). AreGivenBack c.args.self hands)
    (sym (pushed
    ∙ ap (λ (hands : List Hand). hands ++ keeper.hand ∷ []) c.with_passes-hands.ensures.hands))
    (given_back c.args.self c.args.passes.items (keeper ∷ []) c.requires.passes
    (one_keeper c.args.self keeper c.requires.one_part c.requires.keeper))

pub returns-clause-closed : goal.returns-clause-closed
returns-clause-closed c =
    let keeper = c.args.keeper in
    let pushed : c.push.new.self.items ≡ c.with_passes-hands.result.items ++ keeper.hand ∷ [] =
    rw c.unwrap.ensures at c.push.ensures.items in
    closed c.args.self c.args.passes.items (keeper ∷ []) c.read_back.result.items c.requires.passes
    (one_keeper c.args.self keeper c.requires.one_part c.requires.keeper)
    (subst (λ (hands : List Hand). IsReadBack c.args.self hands c.read_back.result.items)
    (pushed
    ∙ ap (λ (hands : List Hand). hands ++ keeper.hand ∷ []) c.with_passes-hands.ensures.hands)
    c.read_back.ensures)
