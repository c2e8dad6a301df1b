-- What a caller may conclude from its loads: of a value that it read, of a key that it did not
-- find, and of where it may insert.
use Rattle.std.specs.Prelude.{◌≡◌, ◌≢◌, ℕ, Bool, true, Some, None, [], ◌∷◌, ◌++◌}
use Rattle.map_model.specs.Map.{look}
use Rattle.index_machine.specs.declared.events.Action.{Action}
use Rattle.index_machine.specs.declared.opening.Opening.{Opening}
use Rattle.index_machine.specs.Execution.{Execution, event}
use Rattle.index_machine.specs.Sections.{IsCaller, StaysInside}
use Rattle.index_machine.specs.Rows.{InArray, InBuffer, role_key, role}
use Rattle.index_machine.specs.Forms.{Unlocked, live_value, is_removed}
use Rattle.index_machine.specs.Places.{form, IsInGroup}
use Rattle.index_machine.specs.Groups.{rebuild}
use Rattle.index_machine.specs.KeyRanges.{group_of, predecessor}
use Rattle.index_machine.specs.Reaching.{saw_open, saw_opened, stands_in, reached}
use Rattle.index_machine.specs.Permissions.{IsUnopened, IsBufferFor, IsClosedToInserts}
use Rattle.index_machine.specs.LivePlaces.{live_place, value_in_map}
use Rattle.index_machine.specs.Conditions.{Allowed, Valid}
use Rattle.machine_readers.specs.Roles.{OnePlaceEach}
use Rattle.machine_readers.specs.Buffers.{rows}
use Rattle.machine_readers.specs.Versions.{VersionsCount}
use Rattle.machine_readers.specs.Redirects.{HasNoValue, IsBehind, RedirectsInto, RedirectsLeadToOld}
use Rattle.machine_readers.specs.Redirects.{NewRedirects, InstalledRedirects}

-- ---- values ----

-- a value that is read at a place of a key is its value in the map
abbrev pub ReadValueIsInMap : Type 0
ReadValueIsInMap =
    (o : Opening) (t : Execution) → Valid o t → (place k value : ℕ) →
    role_key (role o place t) ≡ Some k → live_value (form o place t) ≡ Some value →
    value_in_map o k t ≡ Some value

-- the place has this key before each of the newer events
abbrev pub KeepsKey : Opening → ℕ → ℕ → Execution → Execution → Type 0
KeepsKey o place k [] t = Unit {0}
KeepsKey o place k (e ∷ newer) t =
    (role_key (role o place (newer ++ t)) ≡ Some k) × KeepsKey o place k newer t

-- between two loads of one unlocked version the place holds what it held at the first
abbrev pub EqualVersionsEncloseTheValue : Type 0
EqualVersionsEncloseTheValue =
    (o : Opening) (place k version value last : ℕ) (removed last_removed : Bool)
    (later newer t : Execution) →
    Valid o (later ++ (newer ++ t)) → Valid o (newer ++ t) →
    KeepsKey o place k later (newer ++ t) → KeepsKey o place k newer t →
    form o place t ≡ Unlocked version removed value →
    form o place (later ++ (newer ++ t)) ≡ Unlocked version last_removed last →
    form o place (newer ++ t) ≡ Unlocked version removed value

-- the version of a place tells of the changes of its key
abbrev pub VersionsCountChanges : Type 0
VersionsCountChanges = (o : Opening) (t : Execution) → Valid o t → VersionsCount o t

-- ---- keys that are not found ----

-- no place of the group's array has a value for the key
abbrev pub ArrayHasNone : Opening → Execution → ℕ → ℕ → Type 0
ArrayHasNone o t g k = (a : ℕ) → role o a t ≡ InArray g k → HasNoValue o t a

-- no row of the group's buffer has a value for the key
abbrev pub BufferHasNone : Opening → Execution → ℕ → ℕ → Type 0
BufferHasNone o t g k =
    (p : ℕ) → role o p t ≡ InBuffer g k → is_removed (form o p t) ≡ true

-- the key has no live place and is not in the map
abbrev pub IsAbsent : Opening → ℕ → Execution → Type 0
IsAbsent o k t = (live_place o k t ≡ None) × (value_in_map o k t ≡ None)

-- what a caller does not find in the array and the buffer of a group that is not opened is not in
-- the map
abbrev pub NotFoundIsAbsent : Type 0
NotFoundIsAbsent =
    (o : Opening) (t : Execution) → Valid o t → (k g : ℕ) → group_of o k t ≡ g →
    IsUnopened g t → ArrayHasNone o t g k → BufferHasNone o t g k → IsAbsent o k t

-- nor what it does not find in an opened group and in the buffer of the new one
abbrev pub NotFoundBehindIsAbsent : Type 0
NotFoundBehindIsAbsent =
    (o : Opening) (t : Execution) → Valid o t → (k g f h : ℕ) → IsBehind o t g f h k →
    IsUnopened h t → ArrayHasNone o t g k → BufferHasNone o t g k → BufferHasNone o t h k →
    IsAbsent o k t

-- a caller that stands in an old group stays behind the new one, through the install
abbrev pub CallersStayBehind : Type 0
CallersStayBehind =
    (o : Opening) (c g f h k : ℕ) → IsCaller o c → g ≢ h → (newer t : Execution) →
    Valid o (newer ++ t) → StaysInside c newer → stands_in c g t ≡ true →
    saw_opened c f t ≡ true → rebuild h t ≡ Some f → IsBehind o t g f h k →
    IsBehind o (newer ++ t) g f h k × (rebuild h (newer ++ t) ≡ Some f)

-- so does one that comes to the old group after the install
abbrev pub LateCallersAreBehind : Type 0
LateCallersAreBehind =
    (o : Opening) (t : Execution) → Valid o t → (c k g h : ℕ) → IsCaller o c →
    stands_in c g t ≡ true → predecessor o k t ≡ Some g → group_of o k t ≡ h →
    (a : ℕ) → role o a t ≡ InArray h k → RedirectsInto o t g k a

-- ---- inserting ----

-- a caller that saw its group open and found no value there may link or revive in its buffer
abbrev pub MayInsertWhereSeenOpen : Type 0
MayInsertWhereSeenOpen =
    (o : Opening) (c g k : ℕ) → IsCaller o c → (newer t : Execution) → Valid o (newer ++ t) →
    StaysInside c newer → stands_in c g t ≡ true → saw_open c g (newer ++ t) ≡ true →
    group_of o k t ≡ g → ArrayHasNone o (newer ++ t) g k → BufferHasNone o (newer ++ t) g k →
    IsBufferFor o k g (newer ++ t) × (live_place o k (newer ++ t) ≡ None)

-- and one that saw its group opened in the buffer of the new one
abbrev pub MayInsertBehindOpened : Type 0
MayInsertBehindOpened =
    (o : Opening) (c g f h k : ℕ) → IsCaller o c → (t : Execution) → Valid o t →
    saw_opened c f t ≡ true → rebuild h t ≡ Some f → IsBehind o t g f h k →
    ArrayHasNone o t g k → BufferHasNone o t g k → BufferHasNone o t h k →
    IsBufferFor o k h t × (live_place o k t ≡ None)

-- a key that is not among the rows linked into a buffer has no row there
abbrev pub GapsHaveNoRow : Type 0
GapsHaveNoRow =
    (o : Opening) (t : Execution) → Valid o t → (g k : ℕ) → look (rows g t) k ≡ None →
    (q : ℕ) → role o q t ≢ InBuffer g k

-- ---- tombstones ----

-- a tombstone of an array is never revived
abbrev pub ArrayTombstonesStay : Type 0
ArrayTombstonesStay =
    (o : Opening) (t : Execution) (by : ℕ) (action : Action) (place g k : ℕ) →
    Allowed o t by action → role o place t ≡ InArray g k →
    is_removed (form o place t) ≡ true → is_removed (form o place (event by action ∷ t)) ≡ true

-- a removed row stays so where nobody may insert
abbrev pub BufferTombstonesStay : Type 0
BufferTombstonesStay =
    (o : Opening) (t : Execution) (by : ℕ) (action : Action) (place g k : ℕ) →
    Allowed o t by action → IsClosedToInserts o g t → role o place t ≡ InBuffer g k →
    is_removed (form o place t) ≡ true → is_removed (form o place (event by action ∷ t)) ≡ true

-- an array place without a value stays so, through the copy
abbrev pub PlacesWithoutValueStay : Type 0
PlacesWithoutValueStay =
    (o : Opening) (t : Execution) (by : ℕ) (action : Action) (a g k : ℕ) → Valid o t →
    Allowed o t by action → role o a t ≡ InArray g k → HasNoValue o t a →
    HasNoValue o (event by action ∷ t) a

-- ---- places ----

-- in a group a key has one array place and one row at most
abbrev pub GroupsHaveOnePlaceEach : Type 0
GroupsHaveOnePlaceEach = (o : Opening) (t : Execution) → Valid o t → OnePlaceEach o t

-- a place that a caller reached in its read section is placed for a key
abbrev pub ReachedPlacesHaveKeys : Type 0
ReachedPlacesHaveKeys =
    (o : Opening) (t : Execution) → Valid o t → (c place : ℕ) → IsCaller o c →
    reached c place t ≡ true → (k : ℕ) × (role_key (role o place t) ≡ Some k)

-- and keeps its role while the read section lasts, so it is not given to another record
abbrev pub ReachedPlacesStay : Type 0
ReachedPlacesStay =
    (o : Opening) (c place : ℕ) → IsCaller o c → (newer t : Execution) → Valid o (newer ++ t) →
    StaysInside c newer → reached c place t ≡ true →
    role o place (newer ++ t) ≡ role o place t

-- so does a place of a group where a caller stands
abbrev pub PlacesStayWhereCallersStand : Type 0
PlacesStayWhereCallersStand =
    (o : Opening) (c group k place : ℕ) → IsCaller o c → (newer t : Execution) →
    Valid o (newer ++ t) → StaysInside c newer → stands_in c group t ≡ true →
    IsInGroup o t group k place → role o place (newer ++ t) ≡ role o place t

-- ---- redirects ----

-- redirects lead to old places of their key
abbrev pub RedirectsLeadToOldPlaces : Type 0
RedirectsLeadToOldPlaces = (o : Opening) (t : Execution) → Valid o t → RedirectsLeadToOld o t

-- before the install they lead into the group of the key
abbrev pub NewRedirectsLeadIntoTheGroup : Type 0
NewRedirectsLeadIntoTheGroup = (o : Opening) (t : Execution) → Valid o t → NewRedirects o t

-- after it they lead into the group before, until this is replaced
abbrev pub InstalledRedirectsLeadBack : Type 0
InstalledRedirectsLeadBack = (o : Opening) (t : Execution) → Valid o t → InstalledRedirects o t
