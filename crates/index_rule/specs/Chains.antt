-- What the words say by which a hand comes to a group, and what the words of the group say of its keys.
use Rattle.std.specs.Prelude.{◌≡◌, ℕ, ◌<◌, ◌≤◌, true, length}
use Rattle.line_window.specs.Line.{error_of}
use Rattle.word_layout.specs.declared.headers.HeaderWord.{HeaderWord}
use Rattle.word_layout.specs.declared.headers.HeaderWord.TheVariants as header
use Rattle.word_layout.specs.Parts.{greatest_key}
use Rattle.word_layout.specs.Root.{word_of_root}
use Rattle.index_machine.specs.declared.opening.Opening.{Opening}
use Rattle.index_machine.specs.Execution.{Execution}
use Rattle.index_machine.specs.Reaching.{SeesSlot, stands_in}
use Rattle.index_machine.specs.Sections.{IsCaller}
use Rattle.index_machine.specs.Words.{limits}
use Rattle.machine_arrays.specs.Arrays.{array_keys}
use Rattle.machine_chain.specs.Chain.{next_of, pivot_of}
use Rattle.machine_chain.specs.Walks.{AnswersFor, BeginsInPart, LeadsOn, StartsAtPivot, slot_pivot}

-- the caller stands in the group, which answers for the key, or did
pub record StandsForKey (o : Opening) (hand group k : ℕ) (t : Execution) : Type 0 where
  pub caller : IsCaller o hand
  pub stands : stands_in hand group t ≡ true
  pub is_key : k ≤ greatest_key
  pub answers : AnswersFor o k group t

-- ---- slots ----

-- the root word names so many slots of a side, which the hand may read from then on
pub record TellsRoot (o : Opening) (hand part found : ℕ) (later : Execution) : Type 0 where
  pub count : ℕ
  pub side : ℕ
  pub is : found ≡ word_of_root count side
  pub is_side : side < 2
  pub some : 1 ≤ count
  pub few : count ≤ (limits o).slots
  pub sees : (i : ℕ) → i < count → SeesSlot hand part side i later

-- what was loaded is the pivot of the slot, and was so before
abbrev pub TellsSlotPivot : Opening → ℕ → ℕ → ℕ → ℕ → Execution → Execution → Type 0
TellsSlotPivot o part side i found t later =
    (slot_pivot o part side i t ≡ found) × (slot_pivot o part side i later ≡ found)

-- the caller came to stand in the group, which begins at or before the pivot of the slot; this is what it was
pub record TellsSlotGroup (o : Opening) (hand part side i found : ℕ) (t later : Execution)
    : Type 0 where
  pub stands : stands_in hand found later ≡ true
  pub begins : BeginsInPart o part (slot_pivot o part side i later) found later
  pub behind : pivot_of o found later ≤ slot_pivot o part side i later
  pub same_pivot : slot_pivot o part side i later ≡ slot_pivot o part side i t

-- ---- groups ----

-- the next word of the group, which says where the keys end for which the group answers, or did
pub record TellsNext (o : Opening) (hand group found : ℕ) (t later : Execution) : Type 0 where
  pub word : next_of o group later ≡ found
  pub leads : (k : ℕ) → StandsForKey o hand group k t → LeadsOn o hand group k later

-- the word of the header says what it is there for: the pivot is the least key for which the group answers, or
-- did, and the size and the line error are those of the keys of its array
abbrev pub TellsHeader : Opening → ℕ → ℕ → HeaderWord → ℕ → Execution → Type 0
TellsHeader o hand group header.Pivot found later =
    (pivot_of o group later ≡ found)
    × ((k : ℕ) → StandsForKey o hand group k later → StartsAtPivot o group k later)
TellsHeader o hand group header.Size found later =
    (k : ℕ) → StandsForKey o hand group k later → found ≡ length (array_keys o group later)
TellsHeader o hand group header.LineError found later =
    (k : ℕ) → StandsForKey o hand group k later → found ≡ error_of (array_keys o group later)
TellsHeader o hand group which found later = Unit {0}

-- where the caller stands in a group that answers for a key, or did, the list of the keys of its array stays
abbrev pub KeepsKeys : Opening → ℕ → ℕ → Execution → Execution → Type 0
KeepsKeys o hand group t later =
    (k : ℕ) → StandsForKey o hand group k t → array_keys o group later ≡ array_keys o group t
