use Rattle.std.proofs.Common.{◌+◌, ◌∷◌, [], ◌++◌, ap, sym, ◌∙◌, arith}
use Rattle.ycsb_mix.specs.Choice.{weight_of}
use Rattle.ycsb_mix.proofs.ChoiceLaws.{weights_below-zero, weights_below-more, weight_of-le, sums_more, is_table}
use Rattle.ycsb_mix.proofs.choice.sums_of.Goals as goal

pub loop-rank-init : goal.loop-rank-init
loop-rank-init c = record {
  sum_is = sym weights_below-zero;
  bound = omega arith;
  table = c.in_ok-sums.ensures.items;
}

pub loop-rank-preserved : goal.loop-rank-preserved
loop-rank-preserved c =
    let was = c.loop-rank.invariant in
    let rank = c.loop-rank.rank in
    let weight = ap weight_of c.from.ensures in
    record {
      sum_is = ap (λ w. c.loop-rank.sum + w) weight ∙ ap (λ n. n + weight_of rank) was.sum_is ∙ sym (weights_below-more rank);
      bound = omega (arith, was.bound, weight, weight_of-le rank);
      table = c.in_ok-push.ensures.items ∙ ap (λ w. c.loop-rank.sums.items ++ (c.loop-rank.sum + w) ∷ []) weight ∙ sums_more c.loop-rank.sums.items c.loop-rank.sum rank was.sum_is was.table;
    }

pub returns-clause-table : goal.returns-clause-table
returns-clause-table c = (is_table c.loop-rank.sums.items c.loop-rank.rank c.loop-rank.invariant.table).1

pub returns-clause-ranks : goal.returns-clause-ranks
returns-clause-ranks c = (is_table c.loop-rank.sums.items c.loop-rank.rank c.loop-rank.invariant.table).0 ∙ omega arith
