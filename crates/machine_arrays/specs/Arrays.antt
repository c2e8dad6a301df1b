-- How the keys of a group's array stand, place by place and as a list.
--
-- The fact to remember: an array is filled from index 0 on, and its keys rise.
use Rattle.std.specs.List.Sorted.{IsStrictlyIncreasing}
use Rattle.std.specs.Prelude.{◌≡◌, ◌≢◌, ◌↔◌, ℕ, zero, suc, ◌+◌, ◌<◌, ◌≤◌, cond, ◌==◌, Option}
use Rattle.std.specs.Prelude.{Some, None, List, [], ◌∷◌, length, slice_index}
use Rattle.word_layout.specs.declared.places.Part.TheVariants as part
use Rattle.word_layout.specs.Addresses.{array_address}
use Rattle.word_layout.specs.Parts.{greatest_key}
use Rattle.word_layout.specs.Words.{PlaceWord}
use Rattle.rebuild_plan.specs.Keys.{group_keys}
use Rattle.word_layout.specs.Shape.{first_group_of, group_total}
use Rattle.index_machine.specs.declared.opening.Opening.{Opening}
use Rattle.index_machine.specs.Execution.{Execution}
use Rattle.index_machine.specs.Words.{limits, shape, word}
use Rattle.index_machine.specs.Keepers.{IsKeyIn, IsPart, part_of}
use Rattle.index_machine.specs.OpeningPlan.{part_keys}
use Rattle.index_machine.specs.OpeningRows.{opening_count}
use Rattle.index_machine.specs.Rows.{InArray, Role, role}
use Rattle.index_machine.specs.RecordConditions.{MayLoadKey, MayWalk}
use Rattle.index_machine.specs.RebuildConditions.{HasKeysFrom}
use Rattle.index_machine.specs.Conditions.{Valid}

-- ---- places ----

-- the place with this index of the group's array has this key
abbrev pub HasKeyAt : Opening → ℕ → ℕ → ℕ → Execution → Type 0
HasKeyAt o group index k t = role o (array_address (shape o) group index) t ≡ InArray group k

-- the place has an index in the group's array, and all places before it have smaller keys
pub record IsBehindSmallerKeys (o : Opening) (group k place : ℕ) (t : Execution) : Type 0 where
  pub index : ℕ
  pub in_array : index < (limits o).group_size
  pub at : place ≡ array_address (shape o) group index
  pub smaller : (i : ℕ) → i < index → (j : ℕ) × HasKeyAt o group i j t × (j < k)

-- ---- lists ----

-- the key of a place in this group's array, or none
abbrev pub key_in_array : ℕ → Role → Option ℕ
key_in_array group (InArray g k) = cond (g == group) (Some k) None
key_in_array group _ = None

-- the keys behind this one, if there is one
abbrev pub behind_key : Option ℕ → List ℕ → List ℕ
behind_key None keys = keys
behind_key (Some k) keys = k ∷ keys

-- the keys that stand at so many indices of the group's array, from this index on
abbrev pub keys_from : Opening → ℕ → ℕ → ℕ → Execution → List ℕ
keys_from o group index zero t = []
keys_from o group index (suc more) t =
    behind_key (key_in_array group (role o (array_address (shape o) group index) t))
    (keys_from o group (index + 1) more t)

-- the keys that stand in the group's array, by their indices
abbrev pub array_keys : Opening → ℕ → Execution → List ℕ
array_keys o group t = keys_from o group 0 (limits o).group_size t

-- each of these keys stands at its index in the group's array, and nothing else stands there
pub record IsWholeArray (o : Opening) (group : ℕ) (keys : List ℕ) (t : Execution) : Type 0 where
  pub stands : (index : ℕ) → index < length keys →
      HasKeyAt o group index (slice_index keys index) t
  pub whole : (k place : ℕ) → role o place t ≡ InArray group k →
      (index : ℕ) × (index < length keys) × (place ≡ array_address (shape o) group index)
      × (slice_index keys index ≡ k)

-- at this index of the list the keys from one to another would stand: a smaller key is before it, if there is
-- an index before, and there is a greater one, or none
pub record IsGapAt (keys : List ℕ) (index from hi : ℕ) : Type 0 where
  pub before : (i : ℕ) → i + 1 ≡ index → (i < length keys) × (slice_index keys i < from)
  pub there : index < length keys → hi < slice_index keys index

-- ---- the laws of places, over all executions ----

-- an array is filled from index 0 on, each place behind smaller keys
abbrev pub ArraysAreFilledInOrder : Type 0
ArraysAreFilledInOrder =
    (o : Opening) (t : Execution) → Valid o t → (group k place : ℕ) →
    role o place t ≡ InArray group k → IsBehindSmallerKeys o group k place t

-- so the keys of an array rise with their indices
abbrev pub KeysOfArraysRise : Type 0
KeysOfArraysRise =
    (o : Opening) (t : Execution) → Valid o t → (group i j k m : ℕ) → i < j →
    HasKeyAt o group i k t → HasKeyAt o group j m t → k < m

-- what stands in an array is a key of the group's part, in a group of the table
abbrev pub KeysOfArraysAreKeys : Type 0
KeysOfArraysAreKeys =
    (o : Opening) (t : Execution) → Valid o t → (group k place : ℕ) →
    role o place t ≡ InArray group k →
    (group < group_total (shape o)) × (k ≤ greatest_key) × IsKeyIn o (part_of o group) k

-- ---- the laws of lists ----

-- the keys of an array are all that stands there, each at its index
abbrev pub ListsOfKeysAreWhole : Type 0
ListsOfKeysAreWhole =
    (o : Opening) (t : Execution) → Valid o t → (group : ℕ) →
    IsWholeArray o group (array_keys o group t) t

-- they are the keys that the array has from index 0 on, and no other list is
abbrev pub ArraysHaveTheirKeys : Type 0
ArraysHaveTheirKeys =
    (o : Opening) (t : Execution) → Valid o t → (group : ℕ) (keys : List ℕ) →
    HasKeysFrom o group 0 keys t ↔ (keys ≡ array_keys o group t)

-- they rise
abbrev pub ListsOfKeysRise : Type 0
ListsOfKeysRise =
    (o : Opening) (t : Execution) → Valid o t → (group : ℕ) →
    IsStrictlyIncreasing (array_keys o group t)

-- and fit the array
abbrev pub ListsOfKeysFit : Type 0
ListsOfKeysFit =
    (o : Opening) (t : Execution) → Valid o t → (group : ℕ) →
    length (array_keys o group t) ≤ (limits o).group_size

-- two neighbours in the list say that no key between them stands in the array
abbrev pub GapsOfListsHaveNoPlace : Type 0
GapsOfListsHaveNoPlace =
    (o : Opening) (t : Execution) → Valid o t → (group index from hi : ℕ) →
    IsGapAt (array_keys o group t) index from hi →
    (k place : ℕ) → from ≤ k → k ≤ hi → role o place t ≢ InArray group k

-- a hand that may walk the group may load the key at each index of the list, and finds that of the list
abbrev pub KeysOfListsMayBeLoaded : Type 0
KeysOfListsMayBeLoaded =
    (o : Opening) (t : Execution) → Valid o t → (hand group index found : ℕ) →
    MayWalk o hand group t → index < length (array_keys o group t) →
    word o t (PlaceWord (array_address (shape o) group index) part.Key) ≡ found →
    MayLoadKey o hand (array_address (shape o) group index) found t
    × (found ≡ slice_index (array_keys o group t) index)

-- as the table is opened, each group in use has just the keys of its share, by the plan over the keys of its part
abbrev pub OpenedArraysHaveTheirShares : Type 0
OpenedArraysHaveTheirShares =
    (o : Opening) (part number : ℕ) → IsPart o part → number < opening_count o part →
    array_keys o (first_group_of (shape o) part + number) []
    ≡ group_keys (part_keys (shape o) o.rows part) (limits o).group_size number
