-- The words that an execution leaves.
--
-- The fact to remember: they are the opening words with the stores of the events made in order.
use Rattle.std.specs.Prelude.{ℕ, zero, suc, ◌+◌, cond, nat_lt, Option, Some, None, List, []}
use Rattle.std.specs.Prelude.{◌∷◌, length}
use Rattle.line_window.specs.Line.{error_of}
use Rattle.rebuild_plan.specs.Plan.{lane_count}
use Rattle.rebuild_plan.specs.Keys.{cut_of}
use Rattle.word_layout.specs.declared.limits.Limits.{Limits}
use Rattle.word_layout.specs.declared.places.Part.TheVariants.{Key, Value, State, Link}
use Rattle.word_layout.specs.declared.headers.HeaderWord.TheVariants as header
use Rattle.word_layout.specs.declared.phase.Phase.TheVariants.{Open, Frozen, Opened}
use Rattle.word_layout.specs.declared.state.State.TheVariants.{Redirect, Moved}
use Rattle.word_layout.specs.Phase.{word_of_phase}
use Rattle.word_layout.specs.State.{word_of_state}
use Rattle.word_layout.specs.Shape.{Shape}
use Rattle.word_layout.specs.declared.headers.HeaderWord.{HeaderWord}
use Rattle.word_layout.specs.Layout.{limits_of, shape_of}
use Rattle.word_layout.specs.Addresses.{row_address}
use Rattle.word_layout.specs.Places.{next_row}
use Rattle.word_layout.specs.Words.{Word, FreeHead, Root, Epoch, SlotPivot, SlotGroup}
use Rattle.word_layout.specs.Words.{Header, PlaceWord, same_word}
use Rattle.index_machine.specs.declared.events.Action.{Action}
use Rattle.index_machine.specs.declared.events.Action.TheVariants.{Enter, Leave}
use Rattle.index_machine.specs.declared.events.Action.TheVariants.{PopFree, StorePrivate, PushFree}
use Rattle.index_machine.specs.declared.events.Action.TheVariants.{Lock, StoreValue, Unlock}
use Rattle.index_machine.specs.declared.events.Action.TheVariants.{LinkRow}
use Rattle.index_machine.specs.declared.events.Action.TheVariants.{Freeze, Thaw, StoreHeader}
use Rattle.index_machine.specs.declared.events.Action.TheVariants.{NewGroup}
use Rattle.index_machine.specs.declared.events.Action.TheVariants.{StoreArray, StoreRedirect}
use Rattle.index_machine.specs.declared.events.Action.TheVariants.{StoreOpened, Install, StoreSlot}
use Rattle.index_machine.specs.declared.events.Action.TheVariants.{Close, Copy, StoreDirect}
use Rattle.index_machine.specs.declared.events.Action.TheVariants.{StoreMoved}
use Rattle.index_machine.specs.declared.events.Action.TheVariants.{StoreUnusedPivot}
use Rattle.index_machine.specs.declared.events.Action.TheVariants.{StoreUnusedGroup}
use Rattle.index_machine.specs.declared.events.Action.TheVariants.{StoreRoot}
use Rattle.index_machine.specs.declared.events.InstallWord.{InstallWord}
use Rattle.index_machine.specs.declared.events.InstallWord.TheVariants.{NextOf, FirstSlot}
use Rattle.index_machine.specs.declared.opening.Opening.{Opening}
use Rattle.index_machine.specs.Execution.{Execution}
use Rattle.index_machine.specs.OpeningRows.{opening_row, key_word, value_word, row_state_word}
use Rattle.index_machine.specs.OpeningRows.{is_in_opening_chain, opening_pivot, opening_next, opening_keys}
use Rattle.index_machine.specs.OpeningRoots.{opening_root, opening_slot, opening_slot_pivot}

-- the limits of the table
abbrev pub limits : Opening → Limits
limits o = limits_of o.layout

-- the shape of the table: its limits, and the bounds of its parts
abbrev pub shape : Opening → Shape
shape o = shape_of o.layout

-- ---- the stores ----

-- a word, and the value that is stored there
pub record Store : Type 0 where
  pub word : Word
  pub value : ℕ

-- the store of this value at the word
abbrev pub store : Word → ℕ → Store
store w n = record { word = w; value = n }

-- the link word behind a row of a lane, or the lane's head where there is no row before
abbrev pub link_behind : ℕ → ℕ → ℕ → Word
link_behind group lane zero = Header group (header.Head lane)
link_behind group lane (suc n) = PlaceWord (suc n) Link

-- the store that takes new groups into the chain
abbrev pub install_store : InstallWord → ℕ → Store
install_store (NextOf left) first = store (Header left header.Next) (first + 1)
install_store (FirstSlot part side) first = store (SlotGroup part side 0) first

-- what an action of a hand stores: one word, or nothing
abbrev pub store_of : ℕ → Action → Option Store
store_of hand (Enter n) = Some (store (Epoch hand) n)
store_of hand (Leave n) = Some (store (Epoch hand) n)
store_of hand (PopFree place next) = Some (store FreeHead next)
store_of hand (StorePrivate place part value) = Some (store (PlaceWord place part) value)
store_of hand (PushFree place head) = Some (store FreeHead place)
store_of hand (Lock place expected) = Some (store (PlaceWord place State) (expected + 4))
store_of hand (StoreValue place value) = Some (store (PlaceWord place Value) value)
store_of hand (Unlock place removed change word) = Some (store (PlaceWord place State) word)
store_of hand (LinkRow group lane place change before next) =
    Some (store (link_behind group lane before) place)
store_of hand (Freeze group) = Some (store (Header group header.Phase) (word_of_phase Frozen))
store_of hand (Thaw group) = Some (store (Header group header.Phase) (word_of_phase Open))
store_of hand (StoreHeader group part value) = Some (store (Header group part) value)
store_of hand (NewGroup group low high first) = Some (store (Header group header.Pivot) low)
store_of hand (StoreArray group place part value) = Some (store (PlaceWord place part) value)
store_of hand (StoreRedirect group place k to) =
    Some (store (PlaceWord place State) (word_of_state (Redirect to)))
store_of hand (StoreOpened group first) =
    Some (store (Header group header.Phase) (word_of_phase (Opened first)))
store_of hand (Install at first low high) = Some (install_store at first)
store_of hand (StoreSlot part side i group) = Some (store (SlotGroup part side i) group)
store_of hand (Close place expected) = Some (store (PlaceWord place State) (expected + 4))
store_of hand (Copy place value) = Some (store (PlaceWord place Value) value)
store_of hand (StoreDirect place from k removed word) = Some (store (PlaceWord place State) word)
store_of hand (StoreMoved place) = Some (store (PlaceWord place State) (word_of_state Moved))
store_of hand (StoreUnusedPivot part side i pivot) = Some (store (SlotPivot part side i) pivot)
store_of hand (StoreUnusedGroup part side i group) = Some (store (SlotGroup part side i) group)
store_of hand (StoreRoot part word) = Some (store (Root part) word)
store_of hand _ = None

-- what a word holds after a store, if there is one
abbrev pub stored : Option Store → Word → ℕ → ℕ
stored None w n = n
stored (Some s) w n = cond (same_word s.word w) s.value n

-- ---- the words ----

-- the cut of a lane of a group with this pivot and these keys as the table is opened, or 0 where there is no
-- such lane
abbrev pub opening_cut : ℕ → List ℕ → ℕ → ℕ
opening_cut pivot keys lane = cond (nat_lt lane (lane_count (length keys))) (cut_of pivot keys lane) 0

-- a header word of a group as the table is opened
abbrev pub opening_header : Opening → ℕ → HeaderWord → ℕ
opening_header o group header.Pivot = cond (is_in_opening_chain o group) (opening_pivot o group) 0
opening_header o group header.Size = length (opening_keys o group)
opening_header o group header.LineError = error_of (opening_keys o group)
opening_header o group header.Lanes =
    cond (is_in_opening_chain o group) (lane_count (length (opening_keys o group))) 0
opening_header o group (header.Cut lane) =
    cond (is_in_opening_chain o group) (opening_cut (opening_pivot o group) (opening_keys o group) lane) 0
opening_header o group header.Next = opening_next o group
opening_header o group _ = 0

-- a word of the table as it is opened
--
-- All record rows are on the free stack, row 0 first. Every caller is outside. Each part's rows are in its first
-- groups, as many as were planned for them, and these are chained by their next words. The slots of the part's root
-- that are in use are on side 0, and name groups of this chain at equal steps. The array of a group has the group's
-- rows. Its buffer has the lanes that the plan cuts for them.
abbrev pub opening_word : Opening → Word → ℕ
opening_word o FreeHead = row_address (shape o) 0
opening_word o (Root part) = opening_root o part
opening_word o (Epoch caller) = 0
opening_word o (SlotPivot part side i) = opening_slot_pivot o part side i
opening_word o (SlotGroup part side i) = opening_slot o part side i
opening_word o (Header group which) = opening_header o group which
opening_word o (PlaceWord place Key) = key_word (opening_row o place)
opening_word o (PlaceWord place Value) = value_word (opening_row o place)
opening_word o (PlaceWord place State) =
    row_state_word (limits o).first_version (opening_row o place)
opening_word o (PlaceWord place Link) = next_row (shape o) place

-- what a word holds after the execution
abbrev pub word : Opening → Execution → Word → ℕ
word o [] w = opening_word o w
word o (e ∷ t) w = stored (store_of e.by e.action) w (word o t w)
