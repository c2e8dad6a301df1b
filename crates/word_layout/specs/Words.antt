-- The words of the table by name, so that proofs need no addresses.
use Rattle.std.specs.Prelude.{◌≡◌, ◌≢◌, ℕ, ◌+◌, ◌<◌, Bool, true, false, ◌==◌, ◌&&◌, List, length, slice_index, slice_set}
use Rattle.word_layout.specs.declared.headers.HeaderWord.{HeaderWord}
use Rattle.word_layout.specs.declared.places.Part.{Part}
use Rattle.word_layout.specs.Limits.{word_count}
use Rattle.word_layout.specs.Addresses.{root_address, epoch_address, slot_address, header_address}
use Rattle.word_layout.specs.Shape.{Shape, parts_in, group_total}
use Rattle.word_layout.specs.Headers.{number_of, same_header_word, IsHeaderWord}
use Rattle.word_layout.specs.Places.{IsPlace, part_address, same_part}

-- ---- words by name ----

-- a word of the table: the root word of a part, a word of a slot of a side of a part's root, a header word of a group,
-- one of the four words of a record place, or one of the free head and the epochs
pub data Word : Type 0 where
  FreeHead : Word
  Root : ℕ → Word
  Epoch : ℕ → Word
  SlotPivot : ℕ → ℕ → ℕ → Word
  SlotGroup : ℕ → ℕ → ℕ → Word
  Header : ℕ → HeaderWord → Word
  PlaceWord : ℕ → Part → Word

-- the word is one that a table of this shape has
abbrev pub IsWord : Shape → Word → Type 0
IsWord s FreeHead = Unit {0}
IsWord s (Root part) = part < parts_in s
IsWord s (Epoch caller) = caller < s.limits.callers
IsWord s (SlotPivot part side i) = (part < parts_in s) × (side < 2) × (i < s.limits.slots)
IsWord s (SlotGroup part side i) = (part < parts_in s) × (side < 2) × (i < s.limits.slots)
IsWord s (Header group word) = (group < group_total s) × IsHeaderWord word
IsWord s (PlaceWord place _) = IsPlace s place

-- the address of a word
abbrev pub address_of : Shape → Word → ℕ
address_of s FreeHead = 0
address_of s (Root part) = root_address part
address_of s (Epoch caller) = epoch_address s caller
address_of s (SlotPivot part side i) = slot_address s part side i
address_of s (SlotGroup part side i) = slot_address s part side i + 1
address_of s (Header group word) = header_address s group (number_of word)
address_of s (PlaceWord place part) = part_address place part

-- whether two names are of one word
abbrev pub same_word : Word → Word → Bool
same_word FreeHead FreeHead = true
same_word (Root p) (Root q) = p == q
same_word (Epoch c) (Epoch d) = c == d
same_word (SlotPivot p s i) (SlotPivot q r j) = (p == q) && ((s == r) && (i == j))
same_word (SlotGroup p s i) (SlotGroup q r j) = (p == q) && ((s == r) && (i == j))
same_word (Header g h) (Header f k) = (g == f) && same_header_word h k
same_word (PlaceWord p a) (PlaceWord q b) = (p == q) && same_part a b
same_word _ _ = false

-- every word stands in the table, no two words stand at one address, and every address of the
-- table is that of a word
pub record StandApart (s : Shape) : Type 0 where
  pub within : (w : Word) → IsWord s w → address_of s w < word_count s
  pub apart : (w v : Word) → IsWord s w → IsWord s v → address_of s w ≡ address_of s v → w ≡ v
  pub named : (a : ℕ) → a < word_count s → (w : Word) × IsWord s w × (address_of s w ≡ a)

-- ---- a table by names ----

-- what a word of the table holds, where the table is the list of its words
abbrev pub word_named : Shape → List ℕ → Word → ℕ
word_named s words w = slice_index words (address_of s w)

-- storing at a word's address changes what that word holds, and no other
pub record StoresByName (s : Shape) : Type 0 where
  pub stored : (words : List ℕ) (w : Word) (value : ℕ) → length words ≡ word_count s →
      IsWord s w → word_named s (slice_set words (address_of s w) value) w ≡ value
  pub kept : (words : List ℕ) (w v : Word) (value : ℕ) → IsWord s w → IsWord s v → w ≢ v →
      word_named s (slice_set words (address_of s w) value) v ≡ word_named s words v
