-- Where each kind of word begins, and the address of each word.
use Rattle.std.specs.Prelude.{ℕ, ◌+◌, ◌*◌}
use Rattle.word_layout.specs.Headers.{header_words}
use Rattle.word_layout.specs.Limits.{group_words_of}
use Rattle.word_layout.specs.Shape.{Shape, parts_in, group_total}

-- ---- where each kind begins ----

-- the epoch word of caller 0, behind the free head and the root words
abbrev pub first_epoch_word : Shape → ℕ
first_epoch_word s = 1 + parts_in s

-- the first word of side 0 of the root of part 0, behind the epochs
abbrev pub first_slot_word : Shape → ℕ
first_slot_word s = first_epoch_word s + s.limits.callers

-- the first word of group 0, behind both sides of the roots of all parts
abbrev pub first_group_word : Shape → ℕ
first_group_word s = first_slot_word s + parts_in s * (4 * s.limits.slots)

-- the first word of row 0, behind all groups
abbrev pub first_row_word : Shape → ℕ
first_row_word s = first_group_word s + group_total s * group_words_of s.limits

-- ---- the addresses ----

-- the root word of a part
abbrev pub root_address : ℕ → ℕ
root_address part = 1 + part

-- the epoch word of a caller
abbrev pub epoch_address : Shape → ℕ → ℕ
epoch_address s caller = first_epoch_word s + caller

-- the first of the two words, pivot and group, of a slot of a side of a part's root
abbrev pub slot_address : Shape → ℕ → ℕ → ℕ → ℕ
slot_address s part side i =
    first_slot_word s + part * (4 * s.limits.slots) + side * (2 * s.limits.slots) + 2 * i

-- a word of a group's header
abbrev pub header_address : Shape → ℕ → ℕ → ℕ
header_address s group i = first_group_word s + group * group_words_of s.limits + i

-- a place of a group's array
abbrev pub array_address : Shape → ℕ → ℕ → ℕ
array_address s group i =
    first_group_word s + group * group_words_of s.limits + header_words + 4 * i

-- the place of a record row
abbrev pub row_address : Shape → ℕ → ℕ
row_address s i = first_row_word s + 4 * i
