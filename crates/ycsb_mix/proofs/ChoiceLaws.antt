-- The sums of the weights rise, and the least one above a number is found by halving.
use Rattle.std.proofs.Common.{◌≡◌, ℕ, zero, suc, ◌+◌, ◌-◌, ◌^◌, ◌<◌, ◌≤◌, true, false, nat_lt, List, [], ◌∷◌, ◌++◌, length, get_or, map, refl, sym, ap, ◌∙◌, arith}
use Rattle.std.specs.List.{range_with_len, sum_by}
use Rattle.std.proofs.Math.Nat.{div-le_self}
use Rattle.std.proofs.lemmas.Bool.Decides.{nat_tests}
use Rattle.std.proofs.lemmas.List.FromFn.{length-range_with_len, get_or-range_with_len, get_or-map-range_with_len, length-map-range_with_len, map-range_with_len_more}
use Rattle.std.proofs.lemmas.List.{get_or_default}
use Rattle.std.proofs.lemmas.List.Sums.{position_or_len_is, sum_by_push}
use Rattle.trace_text.proofs.TextLaws.{range_more}
use Rattle.ycsb_mix.specs.Choice.{weight_of, weights_below, rank_at, IsTable}

-- the weights below the next rank
pub weights_below-more : (rank : ℕ) → weights_below (rank + 1) ≡ weights_below rank + weight_of rank
unfolding weights_below
weights_below-more rank =
    ap (sum_by weight_of) (range_more rank) ∙ sum_by_push weight_of (range_with_len 0 rank) rank

-- no weights stand below the first rank
pub weights_below-zero : weights_below 0 ≡ 0
unfolding weights_below
weights_below-zero = refl

-- a weight is at most that of the first rank
pub weight_of-le : (rank : ℕ) → weight_of rank ≤ 2 ^ 20
weight_of-le rank = div-le_self (2 ^ 20) (rank + 1)

-- the sums rise, or stay
weights_below-rises : (rank more : ℕ) → weights_below rank ≤ weights_below (rank + more)
weights_below-rises rank zero =
    let on : rank + 0 ≡ rank = omega arith in omega (arith, ap weights_below on)
weights_below-rises rank (suc more) =
    let on : rank + suc more ≡ rank + more + 1 = omega arith in
    omega (arith, ap weights_below on, weights_below-rises rank more, weights_below-more (rank + more))

-- the weights of some ranks are not nothing
pub weights_below-some : (ranks : ℕ) → 0 < ranks → 0 < weights_below ranks
weights_below-some ranks some =
    let first : weights_below 1 ≡ 2 ^ 20 = weights_below-more 0 ∙ ap (λ n. n + weight_of 0) weights_below-zero in
    let on : 1 + (ranks - 1) ≡ ranks = omega arith in
    omega (arith, first, ap weights_below on, weights_below-rises 1 (ranks - 1))

-- what the table has at a rank
pub sum_at : (sums : List ℕ) (rank : ℕ) → IsTable sums → rank < length sums
    → get_or sums rank 0 ≡ weights_below (rank + 1)
sum_at sums rank table within =
    ap (λ l. get_or l rank 0) table
    ∙ get_or-map-range_with_len (λ r. weights_below (r + 1)) 0 (length sums) rank rank 0 within
    (omega arith)

-- the table does not fall
sums_rise : (sums : List ℕ) (low high : ℕ) → IsTable sums → low ≤ high → high < length sums
    → get_or sums low 0 ≤ get_or sums high 0
sums_rise sums low high table order within =
    let on : low + 1 + (high - low) ≡ high + 1 = omega arith in
    omega (
      arith,
      sum_at sums low table (omega arith),
      sum_at sums high table within,
      ap weights_below on,
      weights_below-rises (low + 1) (high - low),
    )

-- a sum that is not above the number does not pass
stays_below : (chosen sum : ℕ) → sum ≤ chosen → nat_lt chosen sum ≡ false
stays_below chosen sum below = grind (arith, nat_tests)

-- a sum that is above the number passes
passes_above : (chosen sum : ℕ) → chosen < sum → nat_lt chosen sum ≡ true
passes_above chosen sum above = grind (arith, nat_tests)

-- the place from which on the sums are above the number is the rank that it chooses
pub rank_at-is : (sums : List ℕ) (chosen place : ℕ) → IsTable sums → place ≤ length sums
    → ((k : ℕ) → k < place → get_or sums k 0 ≤ chosen)
    → (place < length sums → chosen < get_or sums place 0)
    → rank_at (length sums) chosen ≡ place
rank_at-is sums chosen place table within below above =
    let n = length sums in
    let at : (k : ℕ) → k < n → weights_below (get_or (range_with_len 0 n) k 0 + 1) ≡ get_or sums k 0 =
    λ k lt. ap (λ r. weights_below (r + 1)) (get_or-range_with_len 0 n k 0 lt ∙ omega arith)
    ∙ sym (sum_at sums k table lt) in
    position_or_len_is (λ rank. nat_lt chosen (weights_below (rank + 1))) (range_with_len 0 n) place 0
    (omega (arith, length-range_with_len 0 n))
    (λ k lt. ap (nat_lt chosen) (at k (omega arith)) ∙ stays_below chosen (get_or sums k 0) (below k lt))
    (λ lt.
    let inside : place < n = omega (arith, length-range_with_len 0 n) in
    ap (nat_lt chosen) (at place inside) ∙ passes_above chosen (get_or sums place 0) (above inside))

-- the sum of one more rank
pub sums_more : (sums : List ℕ) (sum rank : ℕ) → sum ≡ weights_below rank
    → sums ≡ map (λ r. weights_below (r + 1)) (range_with_len 0 rank)
    → sums ++ (sum + weight_of rank) ∷ []
    ≡ map (λ r. weights_below (r + 1)) (range_with_len 0 (rank + 1))
sums_more sums sum rank is table =
    let f : ℕ → ℕ = λ r. weights_below (r + 1) in
    let e : sum + weight_of rank ≡ weights_below (rank + 1) =
    ap (λ n. n + weight_of rank) is ∙ sym (weights_below-more rank) in
    ap (λ l. l ++ (sum + weight_of rank) ∷ []) table
    ∙ ap (λ x. map f (range_with_len 0 rank) ++ x ∷ []) e
    ∙ sym (map-range_with_len_more f 0 rank rank (omega arith))

-- the sums of so many ranks are a table
pub is_table : (sums : List ℕ) (rank : ℕ)
    → sums ≡ map (λ r. weights_below (r + 1)) (range_with_len 0 rank)
    → (length sums ≡ rank) × IsTable sums
is_table sums rank table =
    let f : ℕ → ℕ = λ r. weights_below (r + 1) in
    let long : length sums ≡ rank = ap length table ∙ length-map-range_with_len f 0 rank in
    (long, table ∙ ap (λ n. map f (range_with_len 0 n)) (sym long))

-- the table does not fall, at any default
pub sums_rise_at : (sums : List ℕ) → IsTable sums → (i j d : ℕ) → i ≤ j → j < length sums
    → get_or sums i d ≤ get_or sums j d
sums_rise_at sums table i j d order within =
    omega (
      arith,
      get_or_default sums i d 0 (omega arith),
      get_or_default sums j d 0 within,
      sums_rise sums i j table order within,
    )
