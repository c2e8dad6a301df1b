-- How the space of keys is cut into parts.
--
-- Parts are a list of bounds to contracts. Part 0 begins at key 0 and each other part at a bound.
use Rattle.std.specs.Prelude.{◌≡◌, ◌⊎◌, ℕ, ◌+◌, ◌-◌, ◌*◌, ◌/◌, ◌^◌, ◌<◌, ◌≤◌, nat_le, nat_lt}
use Rattle.std.specs.Prelude.{if◌then◌else◌, List, ◌∷◌, length, take, slice_index}
use Rattle.std.specs.Prelude.{count_by, All}
use Rattle.std.specs.List.Sorted.{IsStrictlyIncreasing}

-- ---- bounds ----

-- how many bounds there are at most
abbrev pub most_bounds : ℕ
most_bounds = 15

-- the greatest of all keys
abbrev pub greatest_key : ℕ
greatest_key = 18446744073709551615

-- the list cuts the space of keys: it has few enough bounds, which are keys and rise from above 0
pub record AreBounds (bounds : List ℕ) : Type 0 where
  pub few : length bounds ≤ most_bounds
  pub rising : IsStrictlyIncreasing (0 ∷ bounds)
  pub keys : All (λ bound. bound ≤ greatest_key) bounds

-- the bound at this position is 0, or not above the one before it, or one too many
abbrev pub IsBadBound : List ℕ → ℕ → Type 0
IsBadBound bounds i =
    (slice_index bounds i ≡ 0)
    ⊎ ((0 < i) × (slice_index bounds i ≤ slice_index bounds (i - 1)))
    ⊎ (i ≡ most_bounds)

-- the first bad bound stands at this position: those before it cut the space
pub record IsFirstBadBound (bounds : List ℕ) (at : ℕ) : Type 0 where
  pub within : at < length bounds
  pub bad : IsBadBound bounds at
  pub good_before : AreBounds (take at bounds)

-- ---- parts ----

-- how many parts these bounds make
abbrev pub part_count : List ℕ → ℕ
part_count bounds = length bounds + 1

-- the least key of a part
abbrev pub first_key_of : List ℕ → ℕ → ℕ
first_key_of bounds part = slice_index (0 ∷ bounds) part

-- the greatest key of a part, which is just below the next bound if there is one
abbrev pub last_key_of : List ℕ → ℕ → ℕ
last_key_of bounds part =
    if nat_lt part (length bounds) then slice_index bounds part - 1 else greatest_key

-- the key is one of the part's
pub record IsKeyOfPart (bounds : List ℕ) (part key : ℕ) : Type 0 where
  pub from : first_key_of bounds part ≤ key
  pub to : key ≤ last_key_of bounds part

-- the part that has a key: as many bounds are at most the key
abbrev pub part_with : List ℕ → ℕ → ℕ
part_with bounds key = count_by (λ bound. nat_le bound key) bounds

-- the part has the key, and no other part has it
pub record HasKeyAlone (bounds : List ℕ) (part key : ℕ) : Type 0 where
  pub is_part : part < part_count bounds
  pub has : IsKeyOfPart bounds part key
  pub alone : (other : ℕ) → other < part_count bounds → IsKeyOfPart bounds other key →
      other ≡ part

-- ---- even parts ----

-- there are so many parts, and each begins at its number times an even share of all keys
pub record AreEven (parts : ℕ) (bounds : List ℕ) : Type 0 where
  pub many : part_count bounds ≡ parts
  pub begins : (part : ℕ) → part < parts → first_key_of bounds part ≡ part * (2 ^ 64 / parts)
