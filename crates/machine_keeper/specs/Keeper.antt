-- What the keeper of a part may conclude: when its barriers are over, what stays as it left it, and that
-- rows are given back unreached.
use Rattle.std.specs.Prelude.{◌≡◌, ◌≢◌, ◌⊎◌, ℕ, Bool, true, Some, ◌∷◌, ◌++◌}
use Rattle.index_machine.specs.declared.events.Action.{Action}
use Rattle.index_machine.specs.declared.events.Action.TheVariants.{Install}
use Rattle.index_machine.specs.declared.events.InstallWord.{InstallWord}
use Rattle.index_machine.specs.declared.opening.Opening.{Opening}
use Rattle.index_machine.specs.Execution.{Execution, event}
use Rattle.index_machine.specs.Sections.{IsCaller, IsQuiescent}
use Rattle.index_machine.specs.Keepers.{IsPartKeeper, IsGroupKeeper, IsKeeperAt}
use Rattle.index_machine.specs.Rows.{InArray, InBuffer, role_key, Holds, role}
use Rattle.index_machine.specs.Forms.{Locked, Redirect, is_removed}
use Rattle.index_machine.specs.Places.{form, IsInGroup}
use Rattle.index_machine.specs.KeyRanges.{group_of, successor}
use Rattle.index_machine.specs.Openings.{within}
use Rattle.index_machine.specs.Reaching.{reached}
use Rattle.index_machine.specs.Permissions.{IsClosedToInserts, AreGone}
use Rattle.index_machine.specs.LivePlaces.{live_place}
use Rattle.index_machine.specs.RecordConditions.{KeepsPlace}
use Rattle.index_machine.specs.RebuildConditions.{IsUnusedSide}
use Rattle.index_machine.specs.Conditions.{Allowed, Valid}
use Rattle.machine_barriers.specs.Barriers.{IsShutForInserts, IsShutForOldGroups, IsShutForOldPlace}
use Rattle.machine_barriers.specs.Barriers.{IsShutForSide}
use Rattle.machine_keeper.specs.Marks.{KeeperKeepsStructure, pending_redirect}

-- ---- barriers, from the mark to the check ----

-- after the first barrier nobody may insert into the frozen group
abbrev pub FirstBarrierCloses : Type 0
FirstBarrierCloses =
    (o : Opening) (keeper group : ℕ) (newer t : Execution) → Valid o (newer ++ t) →
    IsGroupKeeper o keeper group → KeeperKeepsStructure keeper newer →
    IsShutForInserts group o t → IsQuiescent o t (newer ++ t) →
    IsClosedToInserts o group (newer ++ t)

-- after the second the old groups of the rebuild are gone, all at once
abbrev pub SecondBarrierFrees : Type 0
SecondBarrierFrees =
    (o : Opening) (keeper first : ℕ) (newer t : Execution) → Valid o (newer ++ t) →
    IsGroupKeeper o keeper first → KeeperKeepsStructure keeper newer →
    IsShutForOldGroups first o t → IsQuiescent o t (newer ++ t) → AreGone o first (newer ++ t)

-- after the third nobody relies on an old place
abbrev pub ThirdBarrierFrees : Type 0
ThirdBarrierFrees =
    (o : Opening) (keeper place : ℕ) (newer t : Execution) → Valid o (newer ++ t) →
    KeepsPlace o t keeper place → KeeperKeepsStructure keeper newer →
    IsShutForOldPlace place o t → IsQuiescent o t (newer ++ t) →
    (caller : ℕ) → IsCaller o caller → reached caller place (newer ++ t) ≡ true → ⊥

-- after a barrier the side of the part's root that is not in use may be written
abbrev pub BarrierFreesSide : Type 0
BarrierFreesSide =
    (o : Opening) (keeper part side : ℕ) (newer t : Execution) → Valid o (newer ++ t) →
    IsPartKeeper o keeper part → KeeperKeepsStructure keeper newer →
    IsShutForSide part side o t → IsQuiescent o t (newer ++ t) →
    IsUnusedSide o part side (newer ++ t)

-- ---- what stays ----

-- a version lock is nobody else's to change
abbrev pub LocksStay : Type 0
LocksStay =
    (o : Opening) (t : Execution) (by : ℕ) (action : Action)
    (hand place k version before value : ℕ) (was : Bool) →
    Allowed o t by action → by ≢ hand → role_key (role o place t) ≡ Some k →
    form o place t ≡ Locked hand version was before value →
    form o place (event by action ∷ t) ≡ Locked hand version was before value

-- where nobody may insert no row comes to the buffer
abbrev pub ClosedBuffersGainNoRow : Type 0
ClosedBuffersGainNoRow =
    (o : Opening) (t : Execution) (by : ℕ) (action : Action) (group k row : ℕ) →
    Allowed o t by action → IsClosedToInserts o group t →
    role o row (event by action ∷ t) ≡ InBuffer group k →
    role o row t ≡ InBuffer group k

-- each redirect in a place of its part is one that the keeper wrote and did not make direct yet
abbrev pub RedirectsArePending : Type 0
RedirectsArePending =
    (o : Opening) (t : Execution) → Valid o t → (keeper a to value : ℕ) → IsKeeperAt o keeper a →
    form o a t ≡ Redirect to value → pending_redirect keeper a t ≡ Some to

-- ---- the install ----

-- if each old place of a key is removed or has its redirect, then so has the live place of the key
abbrev pub LivePlacesAreMerged : Type 0
LivePlacesAreMerged =
    (o : Opening) (t : Execution) → Valid o t → (k g h p : ℕ) → group_of o k t ≡ g →
    successor k t ≡ Some h →
    ((q : ℕ) → IsInGroup o t g k q →
    (is_removed (form o q t) ≡ true)
    ⊎ ((a : ℕ) × (y : ℕ) × (role o a t ≡ InArray h k) × (form o a t ≡ Redirect q y))) →
    ((a q y : ℕ) → role o a t ≡ InArray g k → form o a t ≢ Redirect q y) →
    live_place o k t ≡ Some p →
    (role o p t ≡ InBuffer h k)
    ⊎ ((a : ℕ) × (y : ℕ) × (role o a t ≡ InArray h k) × (form o a t ≡ Redirect p y))

-- the install takes a group out of all key ranges
abbrev pub InstallTakesOldGroupsOut : Type 0
InstallTakesOldGroupsOut =
    (o : Opening) (t : Execution) (by : ℕ) (spot : InstallWord) (first low high g : ℕ) →
    Allowed o t by (Install spot first low high) →
    ((k : ℕ) → group_of o k t ≡ g → within low k high ≡ true) →
    ((k : ℕ) → within low k high ≡ true → successor k t ≢ Some g) → (k : ℕ) →
    group_of o k (event by (Install spot first low high) ∷ t) ≢ g

-- ---- giving back ----

-- a row in a hand, a retired one too, is reached by no caller
abbrev pub HeldRowsAreUnreached : Type 0
HeldRowsAreUnreached =
    (o : Opening) (t : Execution) → Valid o t → (hand place : ℕ) → Holds o hand place t →
    (caller : ℕ) → IsCaller o caller → reached caller place t ≡ true → ⊥
