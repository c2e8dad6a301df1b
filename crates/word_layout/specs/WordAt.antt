-- The name of the word at an address.
use Rattle.std.specs.Prelude.{ℕ, zero, suc, ◌+◌, ◌-◌, ◌*◌, ◌/◌, ◌%◌, nat_lt, if◌then◌else◌}
use Rattle.word_layout.specs.Limits.{group_words_of}
use Rattle.word_layout.specs.Addresses.{first_epoch_word, first_slot_word, first_group_word, first_row_word}
use Rattle.word_layout.specs.Shape.{Shape}
use Rattle.word_layout.specs.Headers.{header_word, header_words}
use Rattle.word_layout.specs.Places.{part_at}
use Rattle.word_layout.specs.Words.{Word, FreeHead, Root, Epoch, SlotPivot, SlotGroup, Header, PlaceWord}

-- the word before the epochs: the free head, and behind it a root word
abbrev pub head_at : ℕ → Word
head_at zero = FreeHead
head_at (suc part) = Root part

-- the first or the second word of a slot
abbrev pub slot_word : ℕ → ℕ → ℕ → ℕ → Word
slot_word part side i zero = SlotPivot part side i
slot_word part side i (suc _) = SlotGroup part side i

-- the word so far behind the start of a part's root, whose sides have so many words
abbrev pub slot_at : ℕ → ℕ → ℕ → Word
slot_at part width k = slot_word part (k / width) (k % width / 2) (k % width % 2)

-- the word so far behind the start of the slots of all roots, whose sides have so many words
abbrev pub root_at : ℕ → ℕ → Word
root_at width k = slot_at (k / (2 * width)) width (k % (2 * width))

-- the word so far behind the start of a group, which begins at this address
abbrev pub in_group : ℕ → ℕ → ℕ → Word
in_group group from r =
    if nat_lt r header_words then Header group (header_word r)
    else PlaceWord (from + (header_words + 4 * ((r - header_words) / 4)))
    (part_at ((r - header_words) % 4))

-- the word so far behind the start of the groups, each of which has so many words
abbrev pub group_at : ℕ → ℕ → ℕ → Word
group_at start width k = in_group (k / width) (start + k / width * width) (k % width)

-- the word so far behind the start of the record rows
abbrev pub row_at : ℕ → ℕ → Word
row_at start k = PlaceWord (start + 4 * (k / 4)) (part_at (k % 4))

-- the word that stands at an address
unfoldable pub word_at : Shape → ℕ → Word
word_at s a =
    if nat_lt a (first_epoch_word s) then head_at a
    else (if nat_lt a (first_slot_word s) then Epoch (a - first_epoch_word s)
    else (if nat_lt a (first_group_word s)
    then root_at (2 * s.limits.slots) (a - first_slot_word s)
    else (if nat_lt a (first_row_word s)
    then group_at (first_group_word s) (group_words_of s.limits) (a - first_group_word s)
    else row_at (first_row_word s) (a - first_row_word s))))
