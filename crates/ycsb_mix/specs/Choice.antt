-- How a rank is chosen: no rank has more weight than a lower one.
use Rattle.std.specs.Prelude.{◌≡◌, ℕ, ◌+◌, ◌*◌, ◌/◌, ◌%◌, ◌^◌, List, length, map, nat_lt}
use Rattle.std.specs.List.{position_or_len, range_with_len, sum_by}

-- the weight of a rank
abbrev pub weight_of : ℕ → ℕ
weight_of rank = 2 ^ 20 / (rank + 1)

-- the weights of the ranks below this one, added up
unfoldable pub weights_below : ℕ → ℕ
weights_below rank = sum_by weight_of (range_with_len 0 rank)

-- the least rank such that the weights of the ranks up to it add up to more than this
abbrev pub rank_at : ℕ → ℕ → ℕ
rank_at load chosen =
    position_or_len (λ rank. nat_lt chosen (weights_below (rank + 1))) (range_with_len 0 load)

-- the rank that two words choose among so many, the high half first
abbrev pub chosen_rank : ℕ → ℕ → ℕ → ℕ
chosen_rank load high low = rank_at load ((high * 2 ^ 32 + low) % weights_below load)

-- at each rank the weights of the ranks up to it, added up
abbrev pub IsTable : List ℕ → Type 0
IsTable sums =
    sums ≡ map (λ rank. weights_below (rank + 1)) (range_with_len 0 (length sums))
