-- What a keeper may do, it may still do once other hands have stepped.
--
-- The fact to remember: other hands leave a part its key ranges, phases, rebuilds and roots. Callers change records,
-- live places, and the buffers into which they may insert; nothing else.
use Rattle.std.specs.Prelude.{◌≡◌, ◌≢◌, ◌⊎◌, ℕ, Bool, true, false, Some, ◌++◌}
use Rattle.word_layout.specs.declared.headers.HeaderWord.{HeaderWord}
use Rattle.word_layout.specs.declared.phase.Phase.TheVariants.{Opened}
use Rattle.word_layout.specs.declared.places.Part.TheVariants.{State}
use Rattle.word_layout.specs.declared.state.State.TheVariants.{Direct}
use Rattle.word_layout.specs.State.{word_of_state}
use Rattle.word_layout.specs.Words.{PlaceWord}
use Rattle.index_machine.specs.declared.events.InstallWord.{InstallWord}
use Rattle.index_machine.specs.declared.opening.Opening.{Opening}
use Rattle.index_machine.specs.Execution.{Execution, Without}
use Rattle.index_machine.specs.Words.{word}
use Rattle.index_machine.specs.Sections.{IsHand}
use Rattle.index_machine.specs.Keepers.{IsGroupKeeper}
use Rattle.index_machine.specs.Rows.{InArray, InBuffer, role}
use Rattle.index_machine.specs.Forms.{Redirect, is_removed}
use Rattle.index_machine.specs.Places.{IsInGroup, form}
use Rattle.index_machine.specs.Groups.{phase, rebuild}
use Rattle.index_machine.specs.KeyRanges.{group_of, successor}
use Rattle.index_machine.specs.LivePlaces.{live_place}
use Rattle.index_machine.specs.Permissions.{AreGone, IsReplaced}
use Rattle.index_machine.specs.RecordConditions.{KeepsPlace, MayFailLock, MayRetire}
use Rattle.index_machine.specs.RebuildConditions.{MayFreeze, MayThaw, MayFillHeader, MayBegin}
use Rattle.index_machine.specs.RebuildConditions.{MayFillArray, MayRedirect, MayOpen, MayInstall}
use Rattle.index_machine.specs.RebuildConditions.{MayStoreSlot, MayClose, MayCopy, MayDirect}
use Rattle.index_machine.specs.RebuildConditions.{MayMove, MayStoreUnused, MayStoreRoot}
use Rattle.index_machine.specs.Conditions.{Valid}

-- what holds for the hand goes on to hold while others step
abbrev pub StaysFor : Opening → ℕ → (Execution → Type 0) → Type 0
StaysFor o hand Holds =
    (newer t : Execution) → IsHand o hand → Valid o (newer ++ t) → Without hand newer → Holds t →
    Holds (newer ++ t)

-- ---- conditions that a keeper asks in place of the machine's ----

-- all old groups of the rebuild that made the group are gone
abbrev pub IsOfPastRebuild : Opening → ℕ → Execution → Type 0
IsOfPastRebuild o group t = (first : ℕ) → rebuild group t ≡ Some first → AreGone o first t

-- the keeper may begin the group, whatever others do; without `past` a caller that stands in an old group of that
-- rebuild may come to see its phase, and has an insert permission here from then on
pub record CanBegin (o : Opening) (t : Execution) (hand group low high first : ℕ) : Type 0 where
  pub may : MayBegin o t hand group low high first
  pub past : IsOfPastRebuild o group t

-- the keeper can try to lock an old place, with the state word of an unlocked record; whether it finds that word is
-- up to callers
pub record CanTryToClose (o : Opening) (t : Execution) (hand place expected : ℕ) : Type 0 where
  pub keeper : KeepsPlace o t hand place
  pub old : (group : ℕ) × (k : ℕ) × IsInGroup o t group k place × IsReplaced o group t
  pub unlocked : (version : ℕ) × (removed : Bool)
      × (expected ≡ word_of_state (Direct version false removed))

-- the old place of a key is removed, or a redirect in the key's new group leads there
abbrev pub IsMerged : Opening → ℕ → ℕ → ℕ → Execution → Type 0
IsMerged o new k place t =
    (is_removed (form o place t) ≡ true)
    ⊎ ((a : ℕ) × (y : ℕ) × (role o a t ≡ InArray new k) × (form o a t ≡ Redirect place y))

-- the keeper has merged the key: the key's group is opened, each place of the key there is merged, and none is itself
-- a redirect
pub record IsMergedKey (o : Opening) (hand k : ℕ) (t : Execution) : Type 0 where
  pub keeper : IsGroupKeeper o hand (group_of o k t)
  pub opened : (first : ℕ) × (phase (group_of o k t) t ≡ Opened first)
  pub new : ℕ
  pub awaits : successor k t ≡ Some new
  pub each : (place : ℕ) → IsInGroup o t (group_of o k t) k place → IsMerged o new k place t
  pub none : (a to y : ℕ) → role o a t ≡ InArray (group_of o k t) k → form o a t ≢ Redirect to y

-- ---- the laws of freezing and of new groups, over all executions ----

-- an open group of the chain stays so: its phase and its key range are its keeper's
abbrev pub MayFreezeStays : Type 0
MayFreezeStays = (o : Opening) (hand group : ℕ) → StaysFor o hand (MayFreeze o hand group)

-- so does a frozen one
abbrev pub MayThawStays : Type 0
MayThawStays = (o : Opening) (hand group : ℕ) → StaysFor o hand (MayThaw o hand group)

-- a group stays out of the chain, and if no key awaits it, also gone: callers come to stand in groups of keys alone
abbrev pub MayFillHeaderStays : Type 0
MayFillHeaderStays =
    (o : Opening) (hand group : ℕ) (which : HeaderWord) →
    StaysFor o hand (λ t. MayFillHeader o t hand group which)

-- a group that can be begun stays gone, since no rebuild is under way; so no row, redirect or caller comes there
abbrev pub CanBeginStays : Type 0
CanBeginStays =
    (o : Opening) (hand group low high first : ℕ) →
    StaysFor o hand (λ t. CanBegin o t hand group low high first)

-- an array place that is nobody's stays so: no row is popped there, and others write redirects elsewhere
abbrev pub MayFillArrayStays : Type 0
MayFillArrayStays =
    (o : Opening) (hand group place : ℕ) → StaysFor o hand (λ t. MayFillArray o t hand group place)

-- so do its words, the places before it, and the old place of the key: callers make no redirect of a record
abbrev pub MayRedirectStays : Type 0
MayRedirectStays =
    (o : Opening) (hand group place k to : ℕ) →
    StaysFor o hand (λ t. MayRedirect o t hand group place k to)

-- a frozen group stays closed to inserts, since all old groups of the rebuild that made it are gone; and gone groups
-- of other rebuilds stay gone, since all of their rebuild are
abbrev pub MayOpenStays : Type 0
MayOpenStays =
    (o : Opening) (hand group first : ℕ) → StaysFor o hand (λ t. MayOpen o t hand group first)

-- ---- the laws of merging and of the install ----

-- a merged key stays so: in an opened group nobody brings a place to life again, and no row comes to its buffer
abbrev pub MergedKeysStay : Type 0
MergedKeysStay = (o : Opening) (hand k : ℕ) → StaysFor o hand (IsMergedKey o hand k)

-- its live place is in the new group's buffer or has its redirect, as the install asks of it
abbrev pub LivePlacesOfMergedKeys : Type 0
LivePlacesOfMergedKeys =
    (o : Opening) (t : Execution) → Valid o t → (hand k new place : ℕ) → IsMergedKey o hand k t →
    successor k t ≡ Some new → live_place o k t ≡ Some place →
    (role o place t ≡ InBuffer new k)
    ⊎ ((a : ℕ) × (y : ℕ) × (role o a t ≡ InArray new k) × (form o a t ≡ Redirect place y))

-- callers move the live places of an opened group, but only into the buffers of the new groups
abbrev pub MayInstallStays : Type 0
MayInstallStays =
    (o : Opening) (hand : ℕ) (spot : InstallWord) (lead low high : ℕ) →
    StaysFor o hand (λ t. MayInstall o t hand spot lead low high)

-- ---- the laws of copying and of reclaiming ----

-- the old place stays one of its group, which stays replaced
abbrev pub CanTryToCloseStays : Type 0
CanTryToCloseStays =
    (o : Opening) (hand place expected : ℕ) →
    StaysFor o hand (λ t. CanTryToClose o t hand place expected)

-- the try locks the place, or finds another state word, since callers lock and change the record meanwhile
abbrev pub TriesToCloseEnd : Type 0
TriesToCloseEnd =
    (o : Opening) (t : Execution) → Valid o t → (hand place expected : ℕ) →
    CanTryToClose o t hand place expected →
    MayClose o t hand place expected
    ⊎ MayFailLock o hand place expected (word o t (PlaceWord place State)) t

-- a new place goes on to forward, and the version lock of the old one is the keeper's
abbrev pub MayCopyStays : Type 0
MayCopyStays = (o : Opening) (hand place : ℕ) → StaysFor o hand (λ t. MayCopy o t hand place)

-- so both go on to have one value
abbrev pub MayDirectStays : Type 0
MayDirectStays =
    (o : Opening) (hand place from k : ℕ) (removed : Bool) (stored : ℕ) →
    StaysFor o hand (λ t. MayDirect o t hand place from k removed stored)

-- nobody locks a place whose record was copied away
abbrev pub MayMoveStays : Type 0
MayMoveStays = (o : Opening) (hand place : ℕ) → StaysFor o hand (λ t. MayMove o t hand place)

-- nothing comes to lead to a row of a gone group, nobody reaches it, and none is linked behind it
abbrev pub MayRetireStays : Type 0
MayRetireStays =
    (o : Opening) (hand place next : ℕ) → StaysFor o hand (λ t. MayRetire o t hand place next)

-- ---- the laws of the root ----

-- a slot of the part stays in use, and the group that is to stand there in the chain
abbrev pub MayStoreSlotStays : Type 0
MayStoreSlotStays =
    (o : Opening) (hand part side i group : ℕ) →
    StaysFor o hand (λ t. MayStoreSlot o t hand part side i group)

-- a side that is not in use stays so, and no caller comes to see a slot of it
abbrev pub MayStoreUnusedStays : Type 0
MayStoreUnusedStays =
    (o : Opening) (hand part side i : ℕ) →
    StaysFor o hand (λ t. MayStoreUnused o t hand part side i)

-- nor do its words change
abbrev pub MayStoreRootStays : Type 0
MayStoreRootStays =
    (o : Opening) (hand part stored : ℕ) → StaysFor o hand (λ t. MayStoreRoot o t hand part stored)
