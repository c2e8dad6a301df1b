use Rattle.std.proofs.Common.{◌≡◌, ℕ, ◌+◌, ◌-◌, ◌*◌, ◌%◌, ◌^◌, ◌<◌, length, get_or, leb, leb-true, ap, sym, inl, inr, ◌∙◌, arith, rules}
use Rattle.std.proofs.Math.Nat.{mod-lt}
use Rattle.std.proofs.lemmas.Bool.{leb-false, cases_lt}
use Rattle.std.proofs.lemmas.List.Sorted.{IsPartitionPoint-from_clause, IsPartitionedBy-leb}
use Rattle.ycsb_mix.specs.Choice.{weights_below, rank_at}
use Rattle.ycsb_mix.proofs.ChoiceLaws.{sum_at, weights_below-some, sums_rise_at, rank_at-is}
use Rattle.ycsb_mix.proofs.choice.choose.Goals as goal

pub nonzero_rem-chosen : goal.nonzero_rem-chosen
nonzero_rem-chosen c =
    let n = length c.args.sums.now in
    let on : n - 1 + 1 ≡ n = omega (arith, c.requires.some) in
    omega (arith, sum_at c.args.sums.now (n - 1) c.requires.table (omega (arith, c.requires.some)), ap weights_below on, weights_below-some n c.requires.some)

pub returns-clause-chosen : goal.returns-clause-chosen
returns-clause-chosen c =
    let sums = c.args.sums.now in
    let n = length sums in
    let last = get_or sums (n - 1) 0 in
    let chosen = (c.from.result * 2 ^ 32 + c.from-2.result) % last in
    let parted = IsPartitionedBy-leb (λ (s : ℕ). s) sums chosen (sums_rise_at sums c.requires.table) in
    let point = IsPartitionPoint-from_clause (λ (s : ℕ). leb s chosen) sums c.partition_point.result c.partition_point.ensures.partitioned parted (λ a r q k. search rules) in
    let place = rank_at-is sums chosen c.partition_point.result c.requires.table c.partition_point.ensures.bound
    (λ k lt. leb-true _ _ (point.0 k 0 (omega arith) lt))
    (λ lt. leb-false _ _ (point.1 c.partition_point.result 0 (omega arith) lt)) in
    let on : n - 1 + 1 ≡ n = omega (arith, c.requires.some) in
    let total : last ≡ weights_below n = sum_at sums (n - 1) c.requires.table (omega (arith, c.requires.some)) ∙ ap weights_below on in
    sym place ∙ ap (λ t. rank_at n ((c.from.result * 2 ^ 32 + c.from-2.result) % t)) total
    ∙ ap (λ h. rank_at n ((h * 2 ^ 32 + c.from-2.result) % weights_below n)) c.from.ensures
    ∙ ap (λ l. rank_at n ((c.args.high * 2 ^ 32 + l) % weights_below n)) c.from-2.ensures

pub returns-clause-within : goal.returns-clause-within
returns-clause-within c =
    let sums = c.args.sums.now in
    let n = length sums in
    let last = get_or sums (n - 1) 0 in
    let chosen = (c.from.result * 2 ^ 32 + c.from-2.result) % last in
    let parted = IsPartitionedBy-leb (λ (s : ℕ). s) sums chosen (sums_rise_at sums c.requires.table) in
    let point = IsPartitionPoint-from_clause (λ (s : ℕ). leb s chosen) sums c.partition_point.result c.partition_point.ensures.partitioned parted (λ a r q k. search rules) in
    let on : n - 1 + 1 ≡ n = omega (arith, c.requires.some) in
    let some : 0 < last = omega (arith, sum_at sums (n - 1) c.requires.table (omega (arith, c.requires.some)), ap weights_below on, weights_below-some n c.requires.some) in
    let below : chosen < last = mod-lt (c.from.result * 2 ^ 32 + c.from-2.result) some in
    elim (cases_lt c.partition_point.result n) [
      | inl inside ↦ inside
      | inr past ↦ absurd (omega (arith, below, c.requires.some, leb-true _ _ (point.0 (n - 1) 0 (omega arith) (omega (arith, past, c.requires.some)))))
    ]
