-- The record places, in arrays and in record rows, and the four words of each.
use Rattle.std.specs.Prelude.{◌≡◌, ◌⊎◌, ℕ, zero, suc, ◌+◌, ◌-◌, ◌%◌, ◌<◌, ◌≤◌, Bool, ◌==◌, ◌&&◌, nat_le, nat_lt, if◌then◌else◌, List, [], ◌∷◌}
use Rattle.word_layout.specs.declared.places.Part.{Part}
use Rattle.word_layout.specs.declared.places.Part.TheVariants.{Key, Value, State, Link}
use Rattle.word_layout.specs.Limits.{word_count}
use Rattle.word_layout.specs.Addresses.{first_row_word, array_address, row_address}
use Rattle.word_layout.specs.Shape.{Shape, group_total}

-- ---- the parts of a place ----

-- how far behind its place a part stands
abbrev pub part_offset : Part → ℕ
part_offset Key = 0
part_offset Value = 1
part_offset State = 2
part_offset Link = 3

-- the address of a part of a place
abbrev pub part_address : ℕ → Part → ℕ
part_address place part = place + part_offset part

-- whether two are one part
abbrev pub same_part : Part → Part → Bool
same_part part other = part_offset part == part_offset other

-- the word at this address is one of the place's four
abbrev pub IsWordOf : ℕ → ℕ → Type 0
IsWordOf place address = (place ≤ address) × (address < place + 4)

-- the part whose word stands so far behind its place
abbrev pub part_at : ℕ → Part
part_at zero = Key
part_at (suc zero) = Value
part_at (suc (suc zero)) = State
part_at (suc (suc (suc _))) = Link

-- which part of a place the word at an address is
abbrev pub part_of : ℕ → ℕ → Part
part_of place address = part_at (address - place)

-- ---- which numbers are places ----

-- a place of a group's array
abbrev pub IsArrayPlace : Shape → ℕ → ℕ → Type 0
IsArrayPlace s group place =
    (array_address s group 0 ≤ place) × (place < array_address s group s.limits.group_size)
    × ((place - array_address s group 0) % 4 ≡ 0)

-- the place of a record row
abbrev pub IsRow : Shape → ℕ → Type 0
IsRow s place =
    (first_row_word s ≤ place) × (place < word_count s) × ((place - first_row_word s) % 4 ≡ 0)

-- a place of the table: of a record row, or of the array of one of its groups
abbrev pub IsPlace : Shape → ℕ → Type 0
IsPlace s place =
    IsRow s place ⊎ ((group : ℕ) × (group < group_total s) × IsArrayPlace s group place)

-- a word that a place may have as this part: a link names a record row, or none
abbrev pub FitsPart : Shape → Part → ℕ → Type 0
FitsPart s Link value = (value ≡ 0) ⊎ IsRow s value
FitsPart s _ value = Unit {0}

-- ---- the record rows in their order ----

-- the place behind a row's, or 0 behind the last row and for what stands before the rows
abbrev pub next_row : Shape → ℕ → ℕ
next_row s place =
    if nat_le (first_row_word s) place && nat_lt (place + 4) (word_count s)
    then place + 4 else 0

-- the places of so many rows, from row i on
abbrev pub rows_from : Shape → ℕ → ℕ → List ℕ
rows_from s i zero = []
rows_from s i (suc n) = row_address s i ∷ rows_from s (i + 1) n
