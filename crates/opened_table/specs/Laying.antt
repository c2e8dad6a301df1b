-- The words of a table, and how they are laid out at its opening.
use Rattle.std.specs.Prelude.{◌≡◌, ◌≢◌, ◌⊎◌, ℕ, ◌+◌, ◌<◌, ◌==◌, false, List, length, map, filter, slice_index_or}
use Rattle.line_window.specs.Line.{error_of}
use Rattle.rebuild_plan.specs.Plan.{lane_count}
use Rattle.rebuild_plan.specs.Keys.{cut_of, planned_share}
use Rattle.map_model.specs.Map.{Map}
use Rattle.word_layout.specs.declared.places.Part.{Part}
use Rattle.word_layout.specs.declared.places.Part.TheVariants.{Key, Value, State, Link}
use Rattle.word_layout.specs.declared.state.State.TheVariants.{Direct}
use Rattle.word_layout.specs.Addresses.{array_address, row_address}
use Rattle.word_layout.specs.Limits.{word_count}
use Rattle.word_layout.specs.Parts.{part_with}
use Rattle.word_layout.specs.Shape.{Shape, first_group_of}
use Rattle.word_layout.specs.State.{word_of_state}
use Rattle.word_layout.specs.declared.headers.HeaderWord.{HeaderWord}
use Rattle.word_layout.specs.declared.headers.HeaderWord.TheVariants as header
use Rattle.word_layout.specs.Words.{Word, Root, SlotPivot, SlotGroup, Header, PlaceWord, IsWord, word_named}
use Rattle.index_machine.specs.declared.opening.Opening.{Opening}
use Rattle.index_machine.specs.Execution.{Execution}
use Rattle.index_machine.specs.OpeningPlan.{part_keys}
use Rattle.index_machine.specs.OpeningRoots.{opening_slots}
use Rattle.index_machine.specs.OpeningRows.{opening_count, opening_group}
use Rattle.index_machine.specs.Words.{limits, shape, opening_word, word}

-- the list of words stands for what each word holds after the execution
pub record StandsFor (o : Opening) (words : List ℕ) (t : Execution) : Type 0 where
  pub wide : length words ≡ word_count (shape o)
  pub named : (w : Word) → IsWord (shape o) w → word_named (shape o) words w ≡ word o t w

-- ---- rows ----

-- the keys of rows, in their order
abbrev pub keys_in : Map → List ℕ
keys_in rows = map (λ row. row.0) rows

-- those of the rows to whose keys the map gives this number, in their order
abbrev pub rows_for : (ℕ → ℕ) → ℕ → Map → Map
rows_for number_of number rows = filter (λ row. number_of row.0 == number) rows

-- the rows of the table that a part has
abbrev pub rows_of_part : Opening → ℕ → Map
rows_of_part o part = rows_for (part_with (shape o).bounds) part o.rows

-- those that a group has
abbrev pub rows_of_group : Opening → ℕ → Map
rows_of_group o group = rows_for (opening_group o) group o.rows

-- how many rows each group of a part is given
abbrev pub share_in : Opening → ℕ → ℕ
share_in o part = planned_share (part_keys (shape o) o.rows part) (limits o).group_size

-- a group row of a part, by its number there
abbrev pub group_row : Opening → ℕ → ℕ → ℕ
group_row o part number = first_group_of (shape o) part + number

-- ---- what is laid out of each kind ----

-- each of the first rows, so many, links to the next of them, and no other word changed
pub record LinksRows (s : Shape) (many : ℕ) (old new : List ℕ) : Type 0 where
  pub wide : length new ≡ length old
  pub linked : (i : ℕ) → i + 1 < many →
      word_named s new (PlaceWord (row_address s i) Link) ≡ row_address s (i + 1)
  pub kept : (w : Word) → IsWord s w →
      ((i : ℕ) → i + 1 < many → w ≢ PlaceWord (row_address s i) Link) →
      word_named s new w ≡ word_named s old w

-- the cuts of the group's first lanes, so many, are those for these keys; no other word changed
pub record LaysCuts (s : Shape) (group pivot : ℕ) (keys : List ℕ) (many : ℕ) (old new : List ℕ) : Type 0 where
  pub wide : length new ≡ length old
  pub cuts : (lane : ℕ) → lane < many →
      word_named s new (Header group (header.Cut lane)) ≡ cut_of pivot keys lane
  pub kept : (w : Word) → IsWord s w →
      ((lane : ℕ) → lane < many → w ≢ Header group (header.Cut lane)) →
      word_named s new w ≡ word_named s old w

-- the header word is one that says something of so many keys, of their pivot or of the group behind
abbrev pub TellsKeys : ℕ → HeaderWord → Type 0
TellsKeys many header.Pivot = Unit {0}
TellsKeys many header.Size = Unit {0}
TellsKeys many header.LineError = Unit {0}
TellsKeys many header.Next = Unit {0}
TellsKeys many header.Lanes = Unit {0}
TellsKeys many (header.Cut lane) = lane < lane_count many
TellsKeys many _ = ⊥

-- the group's header says its pivot, what its next word names, and these keys: how many there are, the error of
-- their line, and their lanes; no other word changed
pub record LaysHeader (s : Shape) (group pivot next : ℕ) (keys : List ℕ) (old new : List ℕ) : Type 0 where
  pub wide : length new ≡ length old
  pub begins : word_named s new (Header group header.Pivot) ≡ pivot
  pub size : word_named s new (Header group header.Size) ≡ length keys
  pub error : word_named s new (Header group header.LineError) ≡ error_of keys
  pub leads : word_named s new (Header group header.Next) ≡ next
  pub lanes : word_named s new (Header group header.Lanes) ≡ lane_count (length keys)
  pub cuts : (lane : ℕ) → lane < lane_count (length keys) →
      word_named s new (Header group (header.Cut lane)) ≡ cut_of pivot keys lane
  pub kept : (w : Word) → IsWord s w →
      ((which : HeaderWord) → TellsKeys (length keys) which → w ≢ Header group which) →
      word_named s new w ≡ word_named s old w

-- the place holds the row: its key, its value, and the state of a new record
pub record HoldsRow (s : Shape) (words : List ℕ) (place : ℕ) (row : ℕ × ℕ) : Type 0 where
  pub key : word_named s words (PlaceWord place Key) ≡ row.0
  pub value : word_named s words (PlaceWord place Value) ≡ row.1
  pub state :
      word_named s words (PlaceWord place State)
      ≡ word_of_state (Direct s.limits.first_version false false)

-- each of the first rows, so many, stands at its place of the group's array, and no other word changed
pub record FillsArray (s : Shape) (group : ℕ) (rows : Map) (many : ℕ) (old new : List ℕ) : Type 0 where
  pub wide : length new ≡ length old
  pub filled : (i : ℕ) → i < many →
      HoldsRow s new (array_address s group i) (slice_index_or rows i (0, 0))
  pub kept : (w : Word) → IsWord s w →
      ((i : ℕ) (at : Part) → i < many → at ≢ Link → w ≢ PlaceWord (array_address s group i) at) →
      word_named s new w ≡ word_named s old w

-- ---- what is laid out of the opening ----

-- the words of this kind are those of the table as it is opened, and no other word changed
pub record Lays (o : Opening) (IsAmong : Word → Type 0) (old new : List ℕ) : Type 0 where
  pub wide : length new ≡ length old
  pub laid : (w : Word) → IsWord (shape o) w → IsAmong w → word_named (shape o) new w ≡ opening_word o w
  pub kept : (w : Word) → IsWord (shape o) w → (IsAmong w → ⊥) →
      word_named (shape o) new w ≡ word_named (shape o) old w

-- the word is of one of the first kinds, so many
abbrev pub IsOfFirst : (ℕ → Word → Type 0) → ℕ → Word → Type 0
IsOfFirst IsOf many w = (number : ℕ) × (number < many) × IsOf number w

-- the word is one of a slot of side 0
abbrev pub IsOfSlot : ℕ → ℕ → Word → Type 0
IsOfSlot part i (SlotPivot p side j) = (p ≡ part) × (side ≡ 0) × (j ≡ i)
IsOfSlot part i (SlotGroup p side j) = (p ≡ part) × (side ≡ 0) × (j ≡ i)
IsOfSlot part i _ = ⊥

-- the word is a part's root word, or one of its first slots, so many
abbrev pub IsOfSlots : ℕ → ℕ → Word → Type 0
IsOfSlots part many w = (w ≡ Root part) ⊎ IsOfFirst (IsOfSlot part) many w

-- the word is one that is laid out for the root of a part
abbrev pub IsOfRoot : Opening → ℕ → Word → Type 0
IsOfRoot o part w = IsOfSlots part (opening_slots o part) w

-- the word is one that is laid out for a group with so many rows: of its header, or of a row in its array
abbrev pub IsOfGroup : Opening → ℕ → Word → Type 0
IsOfGroup o group (Header g which) = (g ≡ group) × TellsKeys (length (rows_of_group o group)) which
IsOfGroup o group (PlaceWord place Link) = ⊥
IsOfGroup o group (PlaceWord place at) =
    (i : ℕ) × (i < length (rows_of_group o group)) × (place ≡ array_address (shape o) group i)
IsOfGroup o group _ = ⊥

-- the word is one that is laid out for the planned groups of a part
abbrev pub IsOfGroups : Opening → ℕ → Word → Type 0
IsOfGroups o part w =
    IsOfFirst (λ number. IsOfGroup o (group_row o part number)) (opening_count o part) w

-- the word is one that is laid out for a part
abbrev pub IsOfPart : Opening → ℕ → Word → Type 0
IsOfPart o part w = IsOfRoot o part w ⊎ IsOfGroups o part w
