use Rattle.std.proofs.Common.{sym, subst}
use Rattle.index_rule.specs.Ended.{Leaves}
use Rattle.resting_table.specs.Resting.{TellPairs}
use Rattle.word_layout.specs.declared.layout.Layout.{Layout}
use Rattle.xindex_core.specs.Passes.{opening_with}
use Rattle.xindex_core.proofs.AllPasses.{at_rest}
use Rattle.xindex_core.proofs.index.Index.read_back.Goals as goal

pub pairs_of-requires-clause-rest : goal.pairs_of-requires-clause-rest
pairs_of-requires-clause-rest c =
    let i = c.args.self in
    let leaves = subst (Leaves (opening_with i) c.args.hands.items) (sym c.as_slice.ensures.value)
    c.close_into-words.ensures in (
      opening_with i,
      leaves.execution,
      at_rest i c.layout-layout.result c.args.hands.items c.as_slice.result.now c.layout-layout.ensures
          c.requires.hands leaves,
    )

pub returns : goal.returns
returns c =
    let i = c.args.self in
    record {
      words = c.as_slice.result.now;
      leaves = subst (Leaves (opening_with i) c.args.hands.items) (sym c.as_slice.ensures.value)
          c.close_into-words.ensures;
      tells = subst (λ (l : Layout). TellPairs l c.as_slice.result.now c.pairs_of.result.items)
          c.layout-layout.ensures c.pairs_of.ensures;
    }
