-- A place in a map: what a search finds there, and what an edit there makes of the map.
use Rattle.std.proofs.Common.{◌≡◌, ℕ, zero, suc, ◌<◌, ◌≤◌, [], ◌∷◌, length, get_or, set, slice_get, Some, None, Result, Ok, Err, IfOk, IfErr, refl, sym, ap, arith}
use Rattle.std.specs.List.{insert}
use Rattle.std.specs.List.Sorted.{IsSearchInRange, IsBinarySearchResult, IsNonDecreasingBy}
use Rattle.std.specs.Ordering.{nat_cmp, ordering_index}
use Rattle.std.proofs.lemmas.Cmp.{ranked}
use Rattle.std.proofs.lemmas.List.Sorted.{IsNonDecreasingBy-from_default}
use Rattle.std.proofs.lemmas.Bool.Decides.{nat_tests}
use Rattle.std.specs.List as List
use Rattle.map_model.specs.Map as Map
use Rattle.map_model.specs.Map.{Map, IsRising, IsAt, IsGapFor, key_at, look, put, first_from}
use Rattle.map_model.proofs.Pairs.{AllAbove, remove-head}

above-at : (a : ℕ) (m : Map) (i : ℕ) → AllAbove a m → i < length m → a < key_at m i
above-at a [] i above lt = absurd (omega arith)
above-at a (r ∷ rs) zero above lt = above.0
above-at a (r ∷ rs) (suc i) above lt = above-at a rs i above.1 (omega arith)

-- of two places the later one has the greater key
pub rising-at : (m : Map) (i j : ℕ) → IsRising m → i < j → j < length m → key_at m i < key_at m j
rising-at [] i j rising lt within = absurd (omega arith)
rising-at (r ∷ rs) i zero rising lt within = absurd (omega arith)
rising-at (r ∷ rs) zero (suc j) rising lt within = above-at r.0 rs j rising.0 (omega arith)
rising-at (r ∷ rs) (suc i) (suc j) rising lt within = rising-at rs i j rising.1 (omega arith) (omega arith)

-- what a binary search by key says of a rising map
module _ (m : Map) (rising : IsRising m) (k : ℕ) where
  compared : IsNonDecreasingBy (λ r. ordering_index (nat_cmp r.0 k)) m
  compared = IsNonDecreasingBy-from_default (λ r. ordering_index (nat_cmp r.0 k)) m (0, 0) (λ i j le within.
      let keys : key_at m i ≤ key_at m j = grind (arith, rising-at m i j rising, λ (same : i ≡ j). ap (key_at m) same) in
      grind (arith, nat_tests))

  pub found-searched : (r : Result ℕ ℕ) → IsSearchInRange r (length m) → IsBinarySearchResult (λ r. nat_cmp r.0 k) m r → IfOk r (IsAt m k)
  found-searched (Ok at) within equal = record { in_range = within; has_key = ranked _ k _ (sym (equal (0, 0))) }
  found-searched (Err at) within parts = tt

  pub gap-searched : (r : Result ℕ ℕ) → IsSearchInRange r (length m) → IsBinarySearchResult (λ r. nat_cmp r.0 k) m r → IfErr r (IsGapFor m k)
  gap-searched (Ok at) within equal = tt
  gap-searched (Err at) within parts = record {
    in_range = within;
    smaller_before = λ j lt. ranked _ k _ (sym ((parts compared).0 j (0, 0) (omega arith) lt));
    greater_after = λ j le lt. ranked _ k _ (sym ((parts compared).1 j (0, 0) le lt));
  }

at-tail : (r : ℕ × ℕ) (rs : Map) (k i : ℕ) → IsAt (r ∷ rs) k (suc i) → IsAt rs k i
at-tail r rs k i at = record { in_range = omega (arith, at.in_range); has_key = at.has_key }

head-below_at : (r : ℕ × ℕ) (rs : Map) (k i : ℕ) → IsRising (r ∷ rs) → IsAt (r ∷ rs) k (suc i) → r.0 < k
head-below_at r rs k i rising at = let lt = rising-at (r ∷ rs) 0 (suc i) rising (omega arith) at.in_range in omega (arith, at.has_key)

gap-tail : (r : ℕ × ℕ) (rs : Map) (k i : ℕ) → IsGapFor (r ∷ rs) k (suc i) → IsGapFor rs k i
gap-tail r rs k i gap = record {
  in_range = omega (arith, gap.in_range);
  smaller_before = λ j lt. gap.smaller_before (suc j) (omega arith);
  greater_after = λ j le lt. gap.greater_after (suc j) (omega arith) (omega arith);
}

-- the value at the key is that of the pair at its place
pub look-at : (m : Map) (k i : ℕ) → IsRising m → IsAt m k i → look m k ≡ Some (get_or m i (0, 0)).1
unfolding look
look-at [] k i rising at = absurd (omega (arith, at.in_range))
look-at (r ∷ rs) k zero rising at = grind (arith, nat_tests, at.has_key)
look-at (r ∷ rs) k (suc i) rising at = grind (arith, nat_tests, head-below_at r rs k i rising at, look-at rs k i rising.1 (at-tail r rs k i at))

-- a put of a key that is there writes over its pair
pub put-at : (m : Map) (k v i : ℕ) → IsRising m → IsAt m k i → put m k v ≡ set m i (k, v)
unfolding put
put-at [] k v i rising at = absurd (omega (arith, at.in_range))
put-at (r ∷ rs) k v zero rising at = grind (arith, nat_tests, at.has_key)
put-at (r ∷ rs) k v (suc i) rising at = grind (arith, nat_tests, head-below_at r rs k i rising at, put-at rs k v i rising.1 (at-tail r rs k i at))

-- a key that has a gap is not there
pub look-in_gap : (m : Map) (k i : ℕ) → IsGapFor m k i → look m k ≡ None
unfolding look
look-in_gap [] k i gap = refl
look-in_gap (r ∷ rs) k zero gap = grind (arith, nat_tests, gap.greater_after 0, look-in_gap rs k zero (record { in_range = omega arith; smaller_before = λ j lt. absurd (omega arith); greater_after = λ j le lt. gap.greater_after (suc j) (omega arith) (omega arith) }))
look-in_gap (r ∷ rs) k (suc i) gap = grind (arith, nat_tests, gap.smaller_before 0, look-in_gap rs k i (gap-tail r rs k i gap))

-- a put of a new key stands in its gap
pub put-in_gap : (m : Map) (k v i : ℕ) → IsGapFor m k i → put m k v ≡ insert m i (k, v)
unfolding put
put-in_gap [] k v zero gap = refl
put-in_gap [] k v (suc i) gap = absurd (omega (arith, gap.in_range))
put-in_gap (r ∷ rs) k v zero gap = grind (arith, nat_tests, gap.greater_after 0)
put-in_gap (r ∷ rs) k v (suc i) gap = grind (arith, nat_tests, gap.smaller_before 0, put-in_gap rs k v i (gap-tail r rs k i gap))

-- a removal of a key that is there takes its pair out
pub remove-at : (m : Map) (k i : ℕ) → IsRising m → IsAt m k i → Map.remove m k ≡ List.remove m i
unfolding Map.remove
remove-at [] k i rising at = absurd (omega (arith, at.in_range))
remove-at (r ∷ rs) k zero rising at = remove-head r rs k rising at.has_key
remove-at (r ∷ rs) k (suc i) rising at = grind (arith, nat_tests, head-below_at r rs k i rising at, remove-at rs k i rising.1 (at-tail r rs k i at))

-- smaller keys before a place, and none of them from it on
pub record IsFirstPlace (m : Map) (k i : ℕ) : Type 0 where
  pub in_range : i ≤ length m
  pub smaller_before : (j : ℕ) → j < i → key_at m j < k
  pub none_after : (j : ℕ) → i ≤ j → j < length m → k ≤ key_at m j

pub first-at : (m : Map) (k i : ℕ) → IsRising m → IsAt m k i → IsFirstPlace m k i
first-at m k i rising at = record {
  in_range = omega (arith, at.in_range);
  smaller_before = λ j lt. let less = rising-at m j i rising lt at.in_range in omega (arith, at.has_key);
  none_after = λ j le lt. grind (arith, at.has_key, rising-at m i j rising, λ (same : i ≡ j). ap (key_at m) same);
}

pub first-in_gap : (m : Map) (k i : ℕ) → IsGapFor m k i → IsFirstPlace m k i
first-in_gap m k i gap = record {
  in_range = gap.in_range;
  smaller_before = gap.smaller_before;
  none_after = λ j le lt. let more = gap.greater_after j le lt in omega arith;
}

-- the first pair from a key on is the one at that place
pub first_from-place : (m : Map) (k i : ℕ) → IsFirstPlace m k i → first_from m k ≡ slice_get m i
unfolding first_from
first_from-place [] k i place = refl
first_from-place (r ∷ rs) k zero place = grind (arith, nat_tests, place.none_after 0)
first_from-place (r ∷ rs) k (suc i) place = grind (
  arith,
  nat_tests,
  place.smaller_before 0,
  first_from-place rs k i (record {
    in_range = omega (arith, place.in_range);
    smaller_before = λ j lt. place.smaller_before (suc j) (omega arith);
    none_after = λ j le lt. place.none_after (suc j) (omega arith) (omega arith);
  }),
)
