-- What the calls on a buffer ask of a hand, and what a link inserts.
use Rattle.std.specs.Prelude.{◌≡◌, ◌≢◌, ◌⊎◌, ℕ, ◌<◌, false, true, None, ◌++◌}
use Rattle.map_model.specs.declared.entries.Change.{Change}
use Rattle.map_model.specs.declared.entries.Change.TheVariants.{Put}
use Rattle.map_model.specs.Map.{look}
use Rattle.word_layout.specs.declared.headers.HeaderWord.{HeaderWord}
use Rattle.word_layout.specs.declared.headers.HeaderWord.TheVariants as header
use Rattle.word_layout.specs.declared.places.Part.TheVariants as part
use Rattle.word_layout.specs.Words.{PlaceWord}
use Rattle.index_machine.specs.declared.events.Action.TheVariants.{LinkRow, FailLink}
use Rattle.index_machine.specs.declared.opening.Opening.{Opening}
use Rattle.index_machine.specs.Execution.{Execution, Without}
use Rattle.index_machine.specs.Words.{word}
use Rattle.index_machine.specs.Lanes.{HasLane, begun_word, lanes}
use Rattle.index_machine.specs.Sections.{IsReading}
use Rattle.index_machine.specs.Keepers.{IsGroupKeeper}
use Rattle.index_machine.specs.Rows.{InBuffer, Holds, role}
use Rattle.index_machine.specs.Forms.{Unlocked, state_word}
use Rattle.index_machine.specs.Places.{first_version}
use Rattle.index_machine.specs.Reaching.{stands_in}
use Rattle.index_machine.specs.Permissions.{MayInsertInto}
use Rattle.index_machine.specs.RecordConditions.{MayWalk}
use Rattle.index_machine.specs.Represents.{has_stale_phase}
use Rattle.index_machine.specs.Conditions.{Valid}
use Rattle.machine_readers.specs.Buffers.{rows}
use Rattle.machine_buffers.specs.Inserting.{IsNewKeyFor}
use Rattle.machine_buffers.specs.Walks.{IsLinkBefore, IsWalkable}
use Rattle.index_rule.specs.declared.board.Board.{Board}
use Rattle.index_rule.specs.declared.hand.Hand.{Hand}
use Rattle.index_rule.specs.declared.swap.Linked.{Linked}
use Rattle.index_rule.specs.declared.swap.Linked.TheVariants.{Done, Raced}
use Rattle.index_rule.specs.Hands.{Makes, known, opening_of}
use Rattle.index_rule.specs.OwnRows.{place_of_private}

-- ---- what a hand can load ----

-- the hand can walk through the buffer: the caller stands in the group, where a walk meets all rows,
-- or the hand is that of the keeper of the group's part
abbrev pub CanWalk : Opening → ℕ → ℕ → Execution → Type 0
CanWalk o hand group t =
    (IsReading o hand t × (stands_in hand group t ≡ true) × IsWalkable o group t)
    ⊎ IsGroupKeeper o hand group

-- the place is a row of the buffer, for some key
abbrev pub IsRowOf : Opening → ℕ → ℕ → Execution → Type 0
IsRowOf o group place t = (k : ℕ) × (role o place t ≡ InBuffer group k)

-- the header word is one of those that say which lanes the group's buffer has: their number, or the cut
-- of one
abbrev pub IsLaneHeader : Opening → ℕ → HeaderWord → Execution → Type 0
IsLaneHeader o group header.Lanes t = Unit {0}
IsLaneHeader o group (header.Cut lane) t = lane < lanes o group t
IsLaneHeader o group _ t = ⊥

-- the header word can be loaded wherever the hand can walk: the group's pivot, its size, the error of its line,
-- or one that says which lanes its buffer has
abbrev pub IsLoadable : Opening → ℕ → HeaderWord → Execution → Type 0
IsLoadable o group header.Pivot t = Unit {0}
IsLoadable o group header.Size t = Unit {0}
IsLoadable o group header.LineError t = Unit {0}
IsLoadable o group which t = IsLaneHeader o group which t

-- the word says what the group was begun with, and still does when the hand knows more
abbrev pub TellsBegun : Opening → ℕ → HeaderWord → ℕ → Execution → Execution → Type 0
TellsBegun o group which found t later =
    (begun_word o group which t ≡ found) × (begun_word o group which later ≡ found)

-- the phase word of the group can be loaded, and says its phase
pub record CanSeePhase (o : Opening) (hand group : ℕ) (t : Execution) : Type 0 where
  pub allowed : MayWalk o hand group t
  pub true_word : has_stale_phase group t ≡ false

-- ---- what a link inserts ----

-- the key of a row that is filled
abbrev pub key_in : Opening → ℕ → Execution → ℕ
key_in o place t = word o t (PlaceWord place part.Key)

-- the change that the link of a filled row makes
abbrev pub inserted_by : Opening → ℕ → ℕ → Execution → Change
inserted_by o hand place t =
    Put hand (key_in o place t) (word o t (PlaceWord place part.Value))

-- the row is the hand's own and filled with a new record, whose link leads to this place
pub record IsFilled (o : Opening) (hand place next : ℕ) (t : Execution) : Type 0 where
  pub held : Holds o hand place t
  pub new_word : word o t (PlaceWord place part.State)
      ≡ state_word (Unlocked (first_version o) false (word o t (PlaceWord place part.Value)))
  pub link_word : word o t (PlaceWord place part.Link) ≡ next

-- the place is none, or a row of the buffer with a greater key
abbrev pub IsBehindKey : Opening → ℕ → ℕ → ℕ → Execution → Type 0
IsBehindKey o group k place t =
    (place ≡ 0) ⊎ ((j : ℕ) × (role o place t ≡ InBuffer group j) × (k < j))

-- whatever others do until then: if the key has no row in the buffer, it belongs there and has no
-- value anywhere
abbrev pub BelongsWhileAbsent : Opening → ℕ → ℕ → ℕ → Execution → Type 0
BelongsWhileAbsent o hand group k t =
    (newer : Execution) → Valid o (newer ++ t) → Without hand newer →
    look (rows group (newer ++ t)) k ≡ None →
    IsNewKeyFor o k group (newer ++ t)

-- the caller may link its filled row between these two places, in the lane of its key, with an insert
-- permission
pub record MayInsertRow (o : Opening) (hand group lane place before next : ℕ) (t : Execution)
    : Type 0 where
  pub reading : IsReading o hand t
  pub stands : stands_in hand group t ≡ true
  pub walkable : IsWalkable o group t
  pub permission : MayInsertInto hand group t
  pub filled : IsFilled o hand place next t
  pub in_lane : HasLane o group lane (key_in o place t) t
  pub behind : IsLinkBefore o group lane (key_in o place t) before t
  pub ahead : IsBehindKey o group (key_in o place t) next t
  pub belongs : BelongsWhileAbsent o hand group (key_in o place t) t

-- the row was linked, or the link led elsewhere by then and the row is handed back
abbrev pub Links : Board → Hand → ℕ → ℕ → ℕ → ℕ → ℕ → Linked → Hand → Type 0
Links b h group lane place before expected Done k =
    Makes b h
    (LinkRow group lane place (inserted_by (opening_of b) h.number place (known h)) before expected)
    k
Links b h group lane place before expected (Raced row found) k =
    (place_of_private row ≡ place) × Makes b h (FailLink group lane before expected found) k
    × (expected ≢ found)
