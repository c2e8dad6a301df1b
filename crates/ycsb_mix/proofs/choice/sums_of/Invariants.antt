use Rattle.std.proofs.Common.{◌≡◌, ◌+◌, ◌*◌, ◌^◌, ◌≤◌, map}
use Rattle.std.specs.List.{range_with_len}
use Rattle.ycsb_mix.specs.Choice.{weights_below}
use Rattle.ycsb_mix.proofs.choice.sums_of.Given as goal

-- the sum so far, and the sums before it
abbrev pub invariant-loop-rank : goal.invariant-loop-rank
invariant-loop-rank l = record {
  sum_is : l.sum ≡ weights_below l.rank;
  bound : l.sum ≤ 2 ^ 20 * l.rank;
  table : l.sums.items ≡ map (λ r. weights_below (r + 1)) (range_with_len 0 l.rank);
}
