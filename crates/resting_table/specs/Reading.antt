-- How far the records of a group at rest were read, by rising keys.
--
-- The fact to remember: what was read so far are the pairs of the map whose keys are below one key.
use Rattle.std.specs.Prelude.{◌≡◌, ◌⊎◌, ℕ, ◌+◌, ◌<◌, ◌≤◌, ◌^◌, ◌==◌, Bool, false, cond, filter, nat_lt}
use Rattle.std.specs.Prelude.{Option, Some, None, List, [], ◌∷◌, length, slice_index}
use Rattle.map_model.specs.Map.{Map, look}
use Rattle.word_layout.specs.declared.layout.Layout.{Layout}
use Rattle.word_layout.specs.declared.places.Part.TheVariants as part
use Rattle.word_layout.specs.declared.state.State.TheVariants.{Direct}
use Rattle.word_layout.specs.Places.{part_address}
use Rattle.word_layout.specs.State.{word_of_state}
use Rattle.index_machine.specs.declared.opening.Opening.{Opening}
use Rattle.index_machine.specs.Execution.{Execution}
use Rattle.index_machine.specs.Forms.{unless}
use Rattle.index_machine.specs.Lanes.{cut, lanes}
use Rattle.index_machine.specs.OpeningRows.{opening_group}
use Rattle.machine_arrays.specs.Arrays.{array_keys}
use Rattle.machine_buffers.specs.Lanes.{IsBefore}
use Rattle.machine_readers.specs.Buffers.{rows}
use Rattle.resting_table.specs.Resting.{LeaveAtRest, map_left}

-- ---- one record ----

-- the key with its value, where it has one
abbrev pub pair_if : ℕ → Option ℕ → Map
pair_if k None = []
pair_if k (Some value) = (k, value) ∷ []

-- the words of the place are those of an unlocked record of this key, with this value or without one
pub record HoldsRecord (words : List ℕ) (place k : ℕ) (found : Option ℕ) : Type 0 where
  pub small : place < 2 ^ 28
  pub within : place + 3 < length words
  pub key : slice_index words place ≡ k
  pub version : ℕ
  pub removed : Bool
  pub state : word_of_state (Direct version false removed)
      ≡ slice_index words (part_address place part.State)
  pub value : found ≡ unless removed (slice_index words (part_address place part.Value))

-- ---- the records of a group ----

-- the pairs whose keys are below this one
abbrev pub pairs_below : ℕ → Map → Map
pairs_below low pairs = filter (λ pair. nat_lt pair.0 low) pairs

-- the key has a row in the group's buffer
abbrev pub HasRow : ℕ → ℕ → Execution → Type 0
HasRow group k t = (place : ℕ) × (look (rows group t) k ≡ Some place)

-- the key from which on rows are left once so many lanes were read, or none where all were
abbrev pub rows_left_from : Opening → ℕ → ℕ → Execution → Option ℕ
rows_left_from o group lane t = cond (lane == lanes o group t) None (Some (cut o group lane t))

-- of the group's records those rows were read whose keys are before `end`, and those of the array with indices below
-- `index`; a record of the array whose key has a row may be read later than the row, since it has no value. The
-- pairs are those of the map with keys below `low`, which is behind what was read and not behind what is left
pub record HasRead (o : Opening) (t : Execution) (group : ℕ) (end : Option ℕ) (index : ℕ) (pairs : Map)
    : Type 0 where
  pub low : ℕ
  pub pairs_are : pairs ≡ pairs_below low (map_left o t)
  pub earlier : (k : ℕ) → k < low → opening_group o k ≤ group
  pub later : (k : ℕ) → low ≤ k → group ≤ opening_group o k
  pub rows_read : (k : ℕ) → HasRow group k t → IsBefore k end → k < low
  pub rows_left : (k : ℕ) → HasRow group k t → (IsBefore k end → ⊥) → low ≤ k
  pub fits : index ≤ length (array_keys o group t)
  pub array_read : (i : ℕ) → i < index → slice_index (array_keys o group t) i < low
  pub array_left : (i : ℕ) → index ≤ i → i < length (array_keys o group t) →
      (low ≤ slice_index (array_keys o group t) i)
      ⊎ HasRow group (slice_index (array_keys o group t) i) t

-- whichever execution leaves the words so, this was read
abbrev pub HaveRead : Layout → List ℕ → ℕ → (Opening → Execution → Option ℕ) → ℕ → Map → Type 0
HaveRead l words group end index pairs =
    (o : Opening) (t : Execution) → LeaveAtRest l words o t → HasRead o t group (end o t) index pairs

-- so many lanes were read
abbrev pub HaveReadLanes : Layout → List ℕ → ℕ → ℕ → ℕ → Map → Type 0
HaveReadLanes l words group lane index pairs =
    HaveRead l words group (λ o t. rows_left_from o group lane t) index pairs

-- the keys of the array that are left from this index on are not before `end`
abbrev pub IsArrayReadTo : Layout → List ℕ → ℕ → Option ℕ → ℕ → Type 0
IsArrayReadTo l words group end index =
    (o : Opening) (t : Execution) → LeaveAtRest l words o t → (i : ℕ) → index ≤ i →
    i < length (array_keys o group t) → IsBefore (slice_index (array_keys o group t) i) end → ⊥

-- whichever execution leaves the words so, the group has this lane
abbrev pub IsLaneIn : Layout → List ℕ → ℕ → ℕ → Type 0
IsLaneIn l words group lane =
    (o : Opening) (t : Execution) → LeaveAtRest l words o t → lane < lanes o group t
