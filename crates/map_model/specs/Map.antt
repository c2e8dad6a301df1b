-- A map is a list of pairs of a key and its value, with rising keys.
use Rattle.std.specs.Prelude.{◌≡◌, ℕ, ◌<◌, ◌≤◌, List, [], ◌∷◌, length, cond, ◌==◌, ◌&&◌, nat_lt, nat_le, slice_index_or, Some, None, Option, filter}
use Rattle.std.specs.List.{AllByRecursion, AllByRecursion-prop}
use mathlib.Core.HLevel.{Unit-prop, ×_prop}
use Rattle.std.proofs.Props.{props}
use Rattle.map_model.specs.declared.entries.Change.{Change}
use Rattle.map_model.specs.declared.entries.Change.TheVariants as change

-- pairs of a key and its value
abbrev pub Map : Type 0
Map = List (ℕ × ℕ)

-- the key of the pair at place i
abbrev pub key_at : Map → ℕ → ℕ
key_at m i = let pair = slice_index_or m i (0, 0) in pair.0

-- each key is below all that stand behind it
abbrev pub IsRising : Map → Type 0
IsRising [] = Unit {0}
IsRising (r ∷ rs) = AllByRecursion (λ q. r.0 < q.0) rs × IsRising rs

-- it has one proof at most
pub IsRising-prop : (m : Map) → IsProp (IsRising m)
IsRising-prop [] = Unit-prop
IsRising-prop (r ∷ rs) =
    ×_prop (AllByRecursion-prop (λ q. r.0 < q.0) (λ q. Prim.hlevel props) rs) (IsRising-prop rs)

-- the value at a key, or none
unfoldable pub look : Map → ℕ → Option ℕ
look [] k = None
look (r ∷ rs) k = cond (r.0 == k) (Some r.1) (look rs k)

-- the pairs with keys from lo to hi, both included
unfoldable pub cut : Map → ℕ → ℕ → Map
cut m lo hi = filter (λ r. nat_le lo r.0 && nat_le r.0 hi) m

-- the map with this value at the key
unfoldable pub put : Map → ℕ → ℕ → Map
put [] k v = (k, v) ∷ []
put (r ∷ rs) k v =
    cond (nat_lt k r.0) ((k, v) ∷ r ∷ rs) (cond (r.0 == k) ((k, v) ∷ rs) (r ∷ put rs k v))

-- the map without the key
unfoldable pub remove : Map → ℕ → Map
remove [] k = []
remove (r ∷ rs) k = cond (r.0 == k) (remove rs k) (r ∷ remove rs k)

-- the first pair whose key is not below a key, or none
unfoldable pub first_from : Map → ℕ → Option (ℕ × ℕ)
first_from [] k = None
first_from (r ∷ rs) k = cond (nat_le k r.0) (Some r) (first_from rs k)

-- the key that a change is of
abbrev pub key_of : Change → ℕ
key_of (change.Put c k v) = k
key_of (change.Remove c k) = k

-- the map after a change
abbrev pub map_after : Change → Map → Map
map_after (change.Put c k v) m = put m k v
map_after (change.Remove c k) m = remove m k

-- the pair at place i has the key
pub record IsAt (m : Map) (k i : ℕ) : Type 0 where
  pub in_range : i < length m
  pub has_key : key_at m i ≡ k

-- the key would stand at place i: smaller keys before it, and greater keys from it on
pub record IsGapFor (m : Map) (k i : ℕ) : Type 0 where
  pub in_range : i ≤ length m
  pub smaller_before : (j : ℕ) → j < i → key_at m j < k
  pub greater_after : (j : ℕ) → i ≤ j → j < length m → k < key_at m j
