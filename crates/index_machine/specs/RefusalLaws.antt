-- What the conditions refuse: for each wrong step of a rebuild or of a caller, the fact that it
-- lacks.
use Rattle.std.specs.Prelude.{◌≡◌, ◌≢◌, ◌⊎◌, ℕ, Bool, true, Some, None}
use Rattle.map_model.specs.declared.entries.Change.{Change}
use Rattle.word_layout.specs.declared.phase.Phase.TheVariants.{Opened}
use Rattle.map_model.specs.Map.{key_of}
use Rattle.index_machine.specs.declared.events.InstallWord.{InstallWord}
use Rattle.index_machine.specs.declared.events.Action.TheVariants.{Unlock, LinkRow, Retire, PushFree}
use Rattle.index_machine.specs.declared.events.Action.TheVariants.{NewGroup, StoreOpened}
use Rattle.index_machine.specs.declared.events.Action.TheVariants.{StoreUnusedGroup}
use Rattle.index_machine.specs.declared.events.Action.TheVariants.{Install, Close, StoreDirect}
use Rattle.index_machine.specs.declared.opening.Opening.{Opening}
use Rattle.index_machine.specs.Execution.{Execution}
use Rattle.index_machine.specs.Keepers.{part_of, IsKeyIn}
use Rattle.index_machine.specs.Sections.{IsCaller}
use Rattle.index_machine.specs.ObservedHeads.{Observes}
use Rattle.index_machine.specs.Rows.{InArray, InBuffer, role}
use Rattle.index_machine.specs.Forms.{Locked, Redirect, IsLockedBy, live_value}
use Rattle.index_machine.specs.Places.{form, IsInGroup}
use Rattle.index_machine.specs.Groups.{phase}
use Rattle.index_machine.specs.KeyRanges.{group_of, successor}
use Rattle.index_machine.specs.Openings.{within}
use Rattle.index_machine.specs.LivePlaces.{live_place}
use Rattle.index_machine.specs.Reaching.{SeesSlot, reached}
use Rattle.index_machine.specs.Permissions.{IsClosedToInserts, IsReplaced}
use Rattle.index_machine.specs.Conditions.{Allowed}

-- a new place is made direct only while the keeper holds its old place locked
abbrev pub CopiesHoldTheLock : Type 0
CopiesHoldTheLock =
    (o : Opening) (t : Execution) (hand place from k : ℕ) (removed : Bool) (stored : ℕ) →
    Allowed o t hand (StoreDirect place from k removed stored) → IsLockedBy hand (form o from t)

-- a group is opened to a rebuild only once nobody may insert into it
abbrev pub OpeningWaitsForInserters : Type 0
OpeningWaitsForInserters =
    (o : Opening) (t : Execution) (hand group first : ℕ) →
    Allowed o t hand (StoreOpened group first) → IsClosedToInserts o group t

-- a group is begun anew only while no group of its part's chain is opened to a rebuild
abbrev pub BeginningsWaitForInstalls : Type 0
BeginningsWaitForInstalls =
    (o : Opening) (t : Execution) (hand group low high first : ℕ) →
    Allowed o t hand (NewGroup group low high first) → (k old : ℕ) → IsKeyIn o (part_of o group) k →
    phase (group_of o k t) t ≢ Opened old

-- a new place is made direct only once nobody walks an old group of the rebuild
abbrev pub CopyingWaitsForReaders : Type 0
CopyingWaitsForReaders =
    (o : Opening) (t : Execution) (hand place from k : ℕ) (removed : Bool) (stored : ℕ) →
    Allowed o t hand (StoreDirect place from k removed stored) →
    (group : ℕ) × IsInGroup o t group k from × IsReplaced o group t

-- an old place is locked for its copy only once nobody walks an old group of the rebuild
abbrev pub ClosingWaitsForReaders : Type 0
ClosingWaitsForReaders =
    (o : Opening) (t : Execution) (hand place expected : ℕ) →
    Allowed o t hand (Close place expected) →
    (group : ℕ) × (k : ℕ) × IsInGroup o t group k place × IsReplaced o group t

-- a row is taken out of an old buffer only once no caller relies on it
abbrev pub RetiringWaitsForReaders : Type 0
RetiringWaitsForReaders =
    (o : Opening) (t : Execution) (hand place next : ℕ) → Allowed o t hand (Retire place next) →
    (caller : ℕ) → IsCaller o caller → reached caller place t ≡ true → ⊥

-- a slot of a side that the root does not name is stored only once no caller is on this side
abbrev pub SlotsWaitForReaders : Type 0
SlotsWaitForReaders =
    (o : Opening) (t : Execution) (hand part side i group : ℕ) →
    Allowed o t hand (StoreUnusedGroup part side i group) →
    (caller j : ℕ) → IsCaller o caller → SeesSlot caller part side j t → ⊥

-- a row is given back only once no caller observes it as a head
abbrev pub PushesWaitForReaders : Type 0
PushesWaitForReaders =
    (o : Opening) (t : Execution) (hand place head : ℕ) →
    Allowed o t hand (PushFree place head) → (caller : ℕ) → IsCaller o caller →
    Observes caller place t → ⊥

-- a row is linked only where the key has no live place
abbrev pub LinksWhereNoneLives : Type 0
LinksWhereNoneLives =
    (o : Opening) (t : Execution) (hand group lane place : ℕ) (change : Change) (before next : ℕ) →
    Allowed o t hand (LinkRow group lane place change before next) →
    live_place o (key_of change) t ≡ None

-- a removed place comes to life again in a buffer alone
abbrev pub RevivesInBuffersAlone : Type 0
RevivesInBuffersAlone =
    (o : Opening) (t : Execution) (hand place : ℕ) (removed : Bool) (change : Change)
    (stored version before value : ℕ) → Allowed o t hand (Unlock place removed change stored) →
    form o place t ≡ Locked hand version true before value →
    (group : ℕ) × (role o place t ≡ InBuffer group (key_of change))

-- new groups are installed only once each live place that stands in what goes has its redirect
abbrev pub InstallsMergeLivePlaces : Type 0
InstallsMergeLivePlaces =
    (o : Opening) (t : Execution) (hand : ℕ) (spot : InstallWord) (first low high : ℕ) →
    Allowed o t hand (Install spot first low high) → (k h p : ℕ) → within low k high ≡ true →
    successor k t ≡ Some h → live_place o k t ≡ Some p →
    (role o p t ≡ InBuffer h k)
    ⊎ ((a : ℕ) × (y : ℕ) × (role o a t ≡ InArray h k) × (form o a t ≡ Redirect p y))

-- a place that forwards has no value of its own
abbrev pub ForwardingPlacesHaveNoValue : Type 0
ForwardingPlacesHaveNoValue =
    (o : Opening) (t : Execution) (place to value : ℕ) → form o place t ≡ Redirect to value →
    live_value (form o place t) ≡ None
