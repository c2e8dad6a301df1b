-- The groups that the table is opened with, and their rows: which group has each, and at which place of its array.
--
-- The fact to remember: a group has the rows whose keys it answers for, in their order, from place 0 on.
use Rattle.std.specs.Prelude.{ℕ, ◌+◌, ◌%◌, false, Bool, cond, ◌==◌, ◌&&◌, nat_lt, Option, Some, None, List, [], ◌∷◌, slice_index}
use Rattle.map_model.specs.Map.{Map}
use Rattle.rebuild_plan.specs.Keys.{planned_pivots}
use Rattle.word_layout.specs.declared.state.State.TheVariants.{Direct}
use Rattle.word_layout.specs.Addresses.{array_address}
use Rattle.word_layout.specs.Layout.{shape_of}
use Rattle.word_layout.specs.Parts.{first_key_of}
use Rattle.word_layout.specs.Shape.{Shape, group_total, part_of_group}
use Rattle.word_layout.specs.State.{word_of_state}
use Rattle.index_machine.specs.declared.opening.Opening.{Opening}
use Rattle.index_machine.specs.OpeningPlan.{keys_for, part_keys, planned_count, planned_group}

-- ---- the groups at the opening ----

-- the group of the chain that answers for a key as the table is opened; for what is no key, the number behind the
-- last group
abbrev pub opening_group : Opening → ℕ → ℕ
opening_group o k = planned_group (shape_of o.layout) o.rows k

-- how many groups a part has in its chain at the opening
abbrev pub opening_count : Opening → ℕ → ℕ
opening_count o part = planned_count (shape_of o.layout) o.rows part

-- the pivots of these groups, from the part's least key on
abbrev pub opening_pivots : Opening → ℕ → List ℕ
opening_pivots o part =
    let s = shape_of o.layout in
    planned_pivots (first_key_of s.bounds part) (part_keys s o.rows part) s.limits.group_size

-- the number of a group's row among those of its part
abbrev pub number_in_part : Opening → ℕ → ℕ
number_in_part o group = group % (shape_of o.layout).limits.groups

-- whether the part of a group has a group in its chain at the opening that is so many behind this one
abbrev pub has_behind : Opening → ℕ → ℕ → Bool
has_behind o group behind =
    nat_lt (number_in_part o group + behind) (opening_count o (part_of_group (shape_of o.layout) group))

-- whether the group is in the chain at the opening: the first ones of each part are, as many as were planned
abbrev pub is_in_opening_chain : Opening → ℕ → Bool
is_in_opening_chain o group = nat_lt group (group_total (shape_of o.layout)) && has_behind o group 0

-- the pivot of a group of the chain at the opening
abbrev pub opening_pivot : Opening → ℕ → ℕ
opening_pivot o group =
    slice_index (opening_pivots o (part_of_group (shape_of o.layout) group)) (number_in_part o group)

-- the next word of a group at the opening: the number behind it, plus 1, where its part has a group there
abbrev pub opening_next : Opening → ℕ → ℕ
opening_next o group =
    cond (is_in_opening_chain o group && has_behind o group 1) (group + 1 + 1) 0

-- the keys of a group's array at the opening
abbrev pub opening_keys : Opening → ℕ → List ℕ
opening_keys o group = keys_for (opening_group o) group o.rows

-- ---- which row stands where ----

-- the index of the next row, which is of this group, where the array of the last row's group is filled so far
abbrev pub index_behind : ℕ → ℕ → ℕ → ℕ
index_behind last filled group = cond (group == last) filled 0

-- the row at a place among these rows, whose groups the map gives, where the array of the group of the last row
-- before them is filled so far
abbrev pub row_from : Shape → (ℕ → ℕ) → ℕ → ℕ → Map → ℕ → Option (ℕ × ℕ)
row_from s group_for last filled [] place = None
row_from s group_for last filled (r ∷ rs) place =
    let group = group_for r.0 in
    let i = index_behind last filled group in
    cond (array_address s group i == place) (Some r) (row_from s group_for group (i + 1) rs place)

-- the place of a key of these rows, in the same way
abbrev pub place_from : Shape → (ℕ → ℕ) → ℕ → ℕ → Map → ℕ → Option ℕ
place_from s group_for last filled [] k = None
place_from s group_for last filled (r ∷ rs) k =
    let group = group_for r.0 in
    let i = index_behind last filled group in
    cond (r.0 == k) (Some (array_address s group i)) (place_from s group_for group (i + 1) rs k)

-- the row that stands at a place at the opening
abbrev pub opening_row : Opening → ℕ → Option (ℕ × ℕ)
opening_row o place = row_from (shape_of o.layout) (opening_group o) 0 0 o.rows place

-- ---- the words of a place ----

-- the key word of a place with this row
abbrev pub key_word : Option (ℕ × ℕ) → ℕ
key_word None = 0
key_word (Some row) = row.0

-- its value word
abbrev pub value_word : Option (ℕ × ℕ) → ℕ
value_word None = 0
value_word (Some row) = row.1

-- its state word: the record is there, unlocked, with the first version
abbrev pub row_state_word : ℕ → Option (ℕ × ℕ) → ℕ
row_state_word first None = 0
row_state_word first (Some row) = word_of_state (Direct first false false)
