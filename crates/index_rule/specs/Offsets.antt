-- Where the words of the table stand in memory.
--
-- The fact to remember: addresses number the words without gaps, and offsets leave gaps around those that
-- every call loads or stores, so that none of these shares a line of the cache with another word.
use Rattle.std.specs.Prelude.{◌≡◌, ◌≢◌, ◌⊎◌, ℕ, ◌+◌, ◌-◌, ◌*◌, ◌/◌, ◌<◌, ◌≤◌, nat_lt, if◌then◌else◌}
use Rattle.std.specs.Prelude.{List, length, slice_index}
use Rattle.word_layout.specs.Shape.{Shape}
use Rattle.word_layout.specs.Addresses.{first_slot_word}
use Rattle.word_layout.specs.Limits.{word_count}
use Rattle.word_layout.specs.Words.{Word, IsWord, address_of}
use Rattle.index_machine.specs.declared.opening.Opening.{Opening}
use Rattle.index_machine.specs.Execution.{Execution}
use Rattle.index_machine.specs.Words.{shape, word}

-- ---- offsets ----

-- the words before this address are hot: the head of the free stack, the root words and the epochs
abbrev pub cold_from : Shape → ℕ
cold_from s = first_slot_word s

-- how much further behind than its address a word stands that is not hot
abbrev pub shift_of : Shape → ℕ
shift_of s = 15 * cold_from s

-- how many words from the front of the memory the word at an address stands
unfoldable pub offset_of : Shape → ℕ → ℕ
offset_of s a = if nat_lt a (cold_from s) then 16 * a else a + shift_of s

-- how many words the memory has
abbrev pub offset_count : Shape → ℕ
offset_count s = word_count s + shift_of s

-- the address of the word that stands so far from the front
unfoldable pub address_at : Shape → ℕ → ℕ
address_at s offset =
    if nat_lt offset (16 * cold_from s) then offset / 16 else offset - shift_of s

-- how many words from the front a word stands
abbrev pub offset_of_word : Shape → Word → ℕ
offset_of_word s w = offset_of s (address_of s w)

-- between the beginnings of two words lie at least 128 bytes, which are 16 words
abbrev pub AreFarApart : ℕ → ℕ → Type 0
AreFarApart m n = (m + 16 ≤ n) ⊎ (n + 16 ≤ m)

-- all words stand in the memory, no two at one offset, and each hot word far apart from every other
pub record LieApart (s : Shape) : Type 0 where
  pub within : (a : ℕ) → a < word_count s → offset_of s a < offset_count s
  pub apart : (a b : ℕ) → offset_of s a ≡ offset_of s b → a ≡ b
  pub hot : (a b : ℕ) → a < cold_from s → a ≢ b → AreFarApart (offset_of s a) (offset_of s b)

-- ---- what the memory holds ----

-- the memory holds the words of the list, each at the offset of its address
pub record Spreads (s : Shape) (words memory : List ℕ) : Type 0 where
  pub wide : length memory ≡ offset_count s
  pub each : (a : ℕ) → a < word_count s →
      slice_index memory (offset_of s a) ≡ slice_index words a

-- the memory holds what each word holds after the execution
pub record HoldsWords (o : Opening) (memory : List ℕ) (t : Execution) : Type 0 where
  pub wide : length memory ≡ offset_count (shape o)
  pub each : (w : Word) → IsWord (shape o) w →
      slice_index memory (offset_of_word (shape o) w) ≡ word o t w
