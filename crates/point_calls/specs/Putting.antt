-- What a put of a key needs within its group, and what its answer tells.
use Rattle.std.specs.Prelude.{◌≡◌, ◌≢◌, ◌⊎◌, ℕ, true, IsSome, Option, None}
use Rattle.map_model.specs.declared.entries.Change.TheVariants.{Put}
use Rattle.map_model.specs.Map.{look}
use Rattle.word_layout.specs.declared.phase.Phase.{Phase}
use Rattle.word_layout.specs.declared.phase.Phase.TheVariants.{Open, Frozen, Opened}
use Rattle.word_layout.specs.declared.places.Part.TheVariants.{State}
use Rattle.word_layout.specs.Phase.{word_of_phase}
use Rattle.word_layout.specs.Words.{FreeHead, PlaceWord, address_of}
use Rattle.index_machine.specs.declared.events.Action.TheVariants.{FailLink, FailPop, LoadFree}
use Rattle.index_machine.specs.declared.events.Action.TheVariants.{LoadPhase, LoadState}
use Rattle.index_machine.specs.Execution.{Execution}
use Rattle.index_machine.specs.LivePlaces.{value_in_map}
use Rattle.index_machine.specs.Permissions.{IsBufferFor}
use Rattle.index_machine.specs.Rows.{Holds, InBuffer, role}
use Rattle.index_machine.specs.Words.{shape, link_behind}
use Rattle.machine_readers.specs.Buffers.{rows}
use Rattle.index_rule.specs.declared.board.Board.{Board}
use Rattle.index_rule.specs.declared.hand.Hand.{Hand}
use Rattle.index_rule.specs.declared.rows.PrivateRow.{PrivateRow}
use Rattle.index_rule.specs.Elsewhere.{HasNoneElsewhere}
use Rattle.index_rule.specs.Hands.{known, opening_of}
use Rattle.index_rule.specs.Moments.{AddsChange, AddsNoEntry, IsWithin}
use Rattle.tried_calls.specs.declared.tried.Tried.{Tried}
use Rattle.tried_calls.specs.declared.tried.Tried.TheVariants as tried
use Rattle.tried_calls.specs.declared.tried.Why.{Why}
use Rattle.tried_calls.specs.declared.tried.Why.TheVariants as why
use Rattle.row_arena.specs.Fullness.{RowsAreUsedUp}
use Rattle.record_cell.specs.Conditions.{IsTombstoneState}
use Rattle.record_cell.specs.Writes.{worn_word}
use Rattle.sorted_group.specs.Standing.{CanSearch}
use Rattle.delta_buffer.specs.Searching.{BelongsBetween, IsReachedRow}
use Rattle.delta_buffer.specs.Walks.{MakesIn, load_of_link}
use Rattle.point_calls.specs.declared.found.FoundRow.{FoundRow}
use Rattle.point_calls.specs.declared.found.Gap.{Gap}
use Rattle.point_calls.specs.declared.found.Missed.{Missed}
use Rattle.point_calls.specs.declared.found.Missed.TheVariants as missed
use Rattle.point_calls.specs.Changing.{LosesLock, MeetsLast}
use Rattle.point_calls.specs.Places.{IsAtBufferOf}
use Rattle.point_calls.specs.PointCalls.{HasSpare, IsCallSoFar, MakesAt, MakesThen}
use Rattle.point_calls.specs.PointCalls.{MeetsChange, MeetsLock}

-- ---- a key that is missing ----

-- the key was not in the map at a moment of the call
abbrev pub IsMissing : Board → ℕ → Hand → Hand → Type 0
IsMissing b key h k =
    (moment : Execution) × IsWithin h k moment × (value_in_map (opening_of b) key moment ≡ None)

-- a group of this phase has a place for new keys: its own buffer, or that of a new group
abbrev pub LetsKeysIn : Phase → Type 0
LetsKeysIn Open = Unit {0}
LetsKeysIn Frozen = ⊥
LetsKeysIn (Opened first) = Unit {0}

-- the call loaded such a phase
pub record MeetsRoom (h k : Hand) : Type 0 where
  pub group : ℕ
  pub phase : Phase
  pub loaded : MakesIn h (LoadPhase group (word_of_phase phase)) k
  pub lets : LetsKeysIn phase

-- at a moment of the call the key had no row in the buffer in which its row belongs, a tombstone included
pub record HasNoRow (b : Board) (key : ℕ) (h k : Hand) : Type 0 where
  pub group : ℕ
  pub moment : Execution
  pub within : IsWithin h k moment
  pub belongs : IsBufferFor (opening_of b) key group moment
  pub none : look (rows group moment) key ≡ None

-- the key may come into this buffer: the call met room for it, no place of it elsewhere has a value, and it was
-- missing at a moment of the call
pub record MayComeInto (b : Board) (start h : Hand) (group key : ℕ) : Type 0 where
  pub room : MeetsRoom start h
  pub elsewhere : HasNoneElsewhere (opening_of b) h.number key group (known h)
  pub missing : IsMissing b key start h

-- ---- what a walk through the key's lane left ----

-- in the call so far the caller came to this row of the key
pub record HasFoundRow (b : Board) (start h : Hand) (found : FoundRow) : Type 0 where
  pub at : IsAtBufferOf b start h found.group found.key
  pub row : IsReachedRow (opening_of b) h.number found.group found.key found.place (known h)

-- which was a tombstone, by the state word that it loaded, where it has stored nothing since
pub record HasFoundTombstone (b : Board) (start h : Hand) (row : FoundRow) (first : ℕ) : Type 0 where
  pub found : HasFoundRow b start h row
  pub loaded : MakesAt start (PlaceWord row.place State) (LoadState row.place first) h
  pub stone : IsTombstoneState first

-- it found no row of the key, which belongs into this gap; it loaded the link there, where it has stored nothing
-- since
pub record HasFoundGap (b : Board) (start h : Hand) (gap : Gap) : Type 0 where
  pub at : IsAtBufferOf b start h gap.lane.group gap.key
  pub loaded : MakesAt start (link_behind gap.lane.group gap.lane.number gap.before)
      (load_of_link gap.lane.group gap.lane.number gap.before gap.next) h
  pub between : BelongsBetween (opening_of b) gap.lane.group gap.lane.number gap.key gap.before
      gap.next (known h)

-- in the buffer of this group it left a tombstone of the key, or the gap where the key belongs
abbrev pub HasLeft : Board → Hand → Hand → ℕ → ℕ → Missed → Type 0
HasLeft b start h group key (missed.Tombstone row word) =
    (row.group ≡ group) × (row.key ≡ key) × HasFoundTombstone b start h row word
HasLeft b start h group key (missed.Between gap) =
    (gap.lane.group ≡ group) × (gap.key ≡ key) × HasFoundGap b start h gap

-- where it left a gap, the key had no row in this buffer at a moment since
abbrev pub HadNoRow : ℕ → ℕ → Missed → Hand → Hand → Type 0
HadNoRow group key (missed.Tombstone row word) h k = Unit {0}
HadNoRow group key (missed.Between gap) h k =
    (moment : Execution) × IsWithin h k moment × (look (rows group moment) key ≡ None)

-- ---- where a key may come in ----

-- the key that was missed
abbrev pub key_of_missed : Missed → ℕ
key_of_missed (missed.Tombstone row word) = row.key
key_of_missed (missed.Between gap) = gap.key

-- the call left this, and the key may come in there
abbrev pub MayPutInto : Board → Hand → Hand → Missed → Type 0
MayPutInto b start h (missed.Tombstone row word) =
    HasFoundTombstone b start h row word × MayComeInto b start h row.group row.key
MayPutInto b start h (missed.Between gap) =
    HasFoundGap b start h gap × MayComeInto b start h gap.lane.group gap.key × HasNoRow b gap.key start h

-- ---- why it is to be tried again ----

-- the call loaded the phase of the group as frozen, and the key was not in the map
pub record MeetsFrozen (b : Board) (key : ℕ) (h : Hand) (group word : ℕ) (k : Hand) : Type 0 where
  pub loaded : MakesIn h (LoadPhase group word) k
  pub frozen : word ≡ word_of_phase Frozen
  pub missing : IsMissing b key h k

-- the exchange of a link, at this address, found another word than the call had loaded there before;
-- the call stored nothing there in between, and the hand holds the row that was to be linked
pub record LosesLink (b : Board) (h : Hand) (address expected found : ℕ) (k : Hand) : Type 0 where
  pub group : ℕ
  pub lane : ℕ
  pub before : ℕ
  pub is_address : address ≡ address_of (shape (opening_of b)) (link_behind group lane before)
  pub steps : MakesThen h (link_behind group lane before) (load_of_link group lane before expected)
      (FailLink group lane before expected found) k
  pub differ : expected ≢ found
  pub held : (place : ℕ) × Holds (opening_of b) k.number place (known k)

-- the exchange of the head of the free stack found another word than the call had loaded there
-- before; the call stored nothing there in between
pub record LosesHead (h : Hand) (address expected found : ℕ) (k : Hand) : Type 0 where
  pub is_address : address ≡ 0
  pub steps : MakesThen h FreeHead (LoadFree expected) (FailPop expected found) k
  pub differ : expected ≢ found

-- why a put is to be tried again
abbrev pub IsPutCause : Board → ℕ → Hand → Why → Hand → Type 0
IsPutCause b key h (why.Locked place word) k = MeetsLock b key h place word k
IsPutCause b key h (why.Changed place first second) k = MeetsChange b key h place first second k
IsPutCause b key h (why.Frozen group word) k = MeetsFrozen b key h group word k
IsPutCause b key h (why.Raced address expected found) k =
    LosesLock b key h address expected found k
    ⊎ (LosesLink b h address expected found k ⊎ LosesHead h address expected found k)

-- ---- what the answer tells ----

-- no row was free: the call loaded 0 as the head of the free stack, the key was not in the map, the record rows are
-- used up, the key had no row, and the call had met room for it
abbrev pub MeetsNoRow : Board → ℕ → Hand → Hand → Type 0
MeetsNoRow b key h k =
    MakesIn h (LoadFree 0) k × IsMissing b key h k × RowsAreUsedUp (opening_of b) (known k)
    × HasNoRow b key h k × MeetsRoom h k

-- a tombstone that is worn out is a row of the key, and the call met it once it had met room for the key
pub record MeetsWornTombstone (b : Board) (key : ℕ) (h : Hand) (place : ℕ) (k : Hand) : Type 0 where
  pub group : ℕ
  pub row : role (opening_of b) place (known k) ≡ InBuffer group key
  pub room : MeetsRoom h k

-- what the answer of a put tells of the key, and the entry that it added
abbrev pub PutTells : Board → ℕ → ℕ → Hand → Tried (Option ℕ) → Hand → Type 0
PutTells b key value h (tried.Done old) k = AddsChange b h (Put h.number key value) old k
PutTells b key value h (tried.Again cause) k = AddsNoEntry h k × IsPutCause b key h cause k
PutTells b key value h tried.Full k = AddsNoEntry h k × MeetsNoRow b key h k
PutTells b key value h (tried.Worn place word) k =
    AddsNoEntry h k × MeetsLast b key h place word k
    × (word ≡ worn_word true → MeetsWornTombstone b key h place k)

-- ---- the spare row ----

-- a put is full only without a spare row
abbrev pub IsFullOnly : Option PrivateRow → Tried (Option ℕ) → Type 0
IsFullOnly spare answer = answer ≡ tried.Full → spare ≡ None

-- where a row was spare, one is spare afterwards, unless a key without a value was given one
abbrev pub KeepsSpare : Option PrivateRow → Tried (Option ℕ) → Option PrivateRow → Type 0
KeepsSpare old answer new = answer ≢ tried.Done None → IsSome old → IsSome new

-- where none was spare, none is afterwards, unless an exchange was lost
abbrev pub LeavesNone : Option PrivateRow → Tried (Option ℕ) → Option PrivateRow → Type 0
LeavesNone old (tried.Again (why.Raced address expected found)) new = Unit {0}
LeavesNone old answer new = old ≡ None → new ≡ None

-- ---- a new row ----

-- in the call so far the caller found the gap where the key belongs, and the key may come into this buffer
pub record MayLinkIn (b : Board) (start h : Hand) (gap : Gap) : Type 0 where
  pub call : IsCallSoFar b start h
  pub search : CanSearch b gap.lane.group h
  pub may : MayComeInto b start h gap.lane.group gap.key
  pub no_row : HasNoRow b gap.key start h
  pub loaded : MakesAt start (link_behind gap.lane.group gap.lane.number gap.before)
      (load_of_link gap.lane.group gap.lane.number gap.before gap.next) h
  pub between : BelongsBetween (opening_of b) gap.lane.group gap.lane.number gap.key gap.before
      gap.next (known h)

-- no row could be taken, and there was no spare one: none was free, or the exchange of the head was lost
abbrev pub GetsNoRow : Board → ℕ → Hand → Option PrivateRow → Tried (Option ℕ) → Hand → Type 0
GetsNoRow b key start spare tried.Full k =
    (spare ≡ None) × HasSpare b k None × MeetsNoRow b key start k
GetsNoRow b key start spare (tried.Again (why.Raced address expected found)) k =
    (spare ≡ None) × HasSpare b k None × LosesHead start address expected found k
GetsNoRow b key start spare answer k = ⊥
