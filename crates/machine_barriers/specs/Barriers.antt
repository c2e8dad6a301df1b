-- What each barrier of a rebuild ends, and what keeps it from beginning again.
--
-- A barrier ends what callers rely on if from its mark on nobody comes to rely on it anew: it is
-- shut.
use Rattle.std.specs.Prelude.{◌≡◌, ◌≢◌, ◌⊎◌, ℕ, true, false, Some, None, [], ◌∷◌, ◌++◌}
use Rattle.word_layout.specs.declared.phase.Phase.TheVariants.{Frozen, Opened}
use Rattle.index_machine.specs.declared.events.Action.{Action}
use Rattle.index_machine.specs.declared.opening.Opening.{Opening}
use Rattle.index_machine.specs.Execution.{Execution, event}
use Rattle.index_machine.specs.Sections.{IsCaller, crossings, IsOutside, IsQuiescent}
use Rattle.index_machine.specs.Forms.{Redirect}
use Rattle.index_machine.specs.Places.{form, IsInGroup}
use Rattle.index_machine.specs.Groups.{phase, rebuild, slot, root, IsInUse}
use Rattle.index_machine.specs.KeyRanges.{group_of}
use Rattle.index_machine.specs.Reaching.{SeesSlot, root_seen, saw_open, saw_opened, stands_in}
use Rattle.index_machine.specs.Reaching.{reached}
use Rattle.index_machine.specs.Permissions.{MayInsertInto, IsClosedToInserts, IsGone, AreGone}
use Rattle.index_machine.specs.Conditions.{Allowed, Valid}

-- ---- opened groups ----

-- what stands of groups that were opened to a rebuild
pub record OpenedGroupsHold (o : Opening) (t : Execution) : Type 0 where
  -- no caller may insert into them
  pub closed : (hand group : ℕ) → IsCaller o hand → MayInsertInto hand group t →
      (first : ℕ) → phase group t ≢ Opened first
  -- of the rebuild that made such a group nothing is left
  pub past : (group e old first : ℕ) → phase group t ≡ Opened e → rebuild group t ≡ Some first →
      phase old t ≡ Opened first → IsGone o old t
  -- the group by which the rebuild is named is one of its new groups
  pub named : (old first : ℕ) → phase old t ≡ Opened first → rebuild first t ≡ Some first

-- ---- a barrier in general ----

-- while it is shut, who relies on it relied on it before, in the same read section
abbrev pub IsShutBy : Opening → (ℕ → Execution → Type 0) → (Execution → Type 0) → Type 0
IsShutBy o Relies Shut =
    (t : Execution) (by : ℕ) (action : Action) → Valid o t → Allowed o t by action → Shut t →
    (caller : ℕ) → IsCaller o caller → Relies caller (event by action ∷ t) →
    Relies caller t × (crossings caller (event by action ∷ t) ≡ crossings caller t)

-- it is shut at the execution t and before each of these newer events
abbrev pub IsShutOver : (Execution → Type 0) → Execution → Execution → Type 0
IsShutOver Shut [] t = Unit {0}
IsShutOver Shut (e ∷ newer) t = Shut (newer ++ t) × IsShutOver Shut newer t

-- ---- the first barrier ----

-- the group is of the chain and frozen, and of the rebuild that made it nothing is left
pub record IsShutForInserts (group : ℕ) (o : Opening) (t : Execution) : Type 0 where
  pub chained : (k : ℕ) × (group_of o k t ≡ group)
  pub frozen : phase group t ≡ Frozen
  pub past : (old first : ℕ) → phase old t ≡ Opened first → rebuild group t ≡ Some first →
      IsGone o old t

-- ---- the second barrier ----

-- the old groups of the rebuild are in no key range, and no slot in use names one
pub record IsShutForOldGroups (first : ℕ) (o : Opening) (t : Execution) : Type 0 where
  pub unowned : (k : ℕ) → phase (group_of o k t) t ≢ Opened first
  pub unnamed : (part side i : ℕ) → IsInUse (root o part t) side i →
      phase (slot o part side i t) t ≢ Opened first
  pub installed : (k : ℕ) × (new : ℕ) × (rebuild new t ≡ Some first) × (group_of o k t ≡ new)

-- the hand stands in an old group of the rebuild, or on a side of a root that leads to one
abbrev pub ReliesOnOld : Opening → ℕ → ℕ → Execution → Type 0
ReliesOnOld o first hand t =
    (group : ℕ) × (phase group t ≡ Opened first)
    × ((stands_in hand group t ≡ true)
    ⊎ ((part : ℕ) × (side : ℕ) × (i : ℕ) × SeesSlot hand part side i t × (slot o part side i t ≡ group)))

-- ---- the third barrier ----

-- no redirect leads to the place, and it is of an old group of a rebuild whose old groups are gone
pub record IsShutForOldPlace (place : ℕ) (o : Opening) (t : Execution) : Type 0 where
  pub no_target : (a y : ℕ) → form o a t ≢ Redirect place y
  pub old : (group : ℕ) × (first : ℕ) × (k : ℕ) × IsInGroup o t group k place
      × (phase group t ≡ Opened first) × AreGone o first t

-- ---- the roots ----

-- the side of the part's root is not in use
abbrev pub IsShutForSide : ℕ → ℕ → Opening → Execution → Type 0
IsShutForSide part side o t = (i : ℕ) → IsInUse (root o part t) side i → ⊥

-- the hand stands on the side of the part's root
abbrev pub StandsOnSide : ℕ → ℕ → ℕ → Execution → Type 0
StandsOnSide part side hand t = (i : ℕ) × SeesSlot hand part side i t

-- ---- outside ----

-- the hand came to nothing that it could rely on
pub record ReliesOnNothing (hand : ℕ) (t : Execution) : Type 0 where
  pub roots : (part : ℕ) → root_seen hand part t ≡ None
  pub groups : (group : ℕ) → stands_in hand group t ≡ false
  pub open_groups : (group : ℕ) → saw_open hand group t ≡ false
  pub rebuilds : (first : ℕ) → saw_opened hand first t ≡ false
  pub places : (place : ℕ) → reached hand place t ≡ false

-- ---- the laws, over all executions ----

-- outside a read section a caller relies on nothing
abbrev pub CallersOutsideRelyOnNothing : Type 0
CallersOutsideRelyOnNothing =
    (o : Opening) (t : Execution) → Valid o t → (caller : ℕ) → IsCaller o caller →
    IsOutside caller t → ReliesOnNothing caller t

-- nobody may insert into an opened group
abbrev pub OpenedGroupsAreClosed : Type 0
OpenedGroupsAreClosed = (o : Opening) (t : Execution) → Valid o t → OpenedGroupsHold o t

-- once those who were inside have left, nobody may insert into a group that was frozen
abbrev pub FirstBarrierEndsInserts : Type 0
FirstBarrierEndsInserts =
    (o : Opening) (group : ℕ) (newer t : Execution) → Valid o (newer ++ t) →
    IsShutOver (IsShutForInserts group o) newer t → IsQuiescent o t (newer ++ t) →
    IsClosedToInserts o group (newer ++ t)

-- nor stands in an old group that was out of the chain and of the slots
abbrev pub SecondBarrierEndsOldGroups : Type 0
SecondBarrierEndsOldGroups =
    (o : Opening) (first : ℕ) (newer t : Execution) → Valid o (newer ++ t) →
    IsShutOver (IsShutForOldGroups first o) newer t → IsQuiescent o t (newer ++ t) →
    (caller : ℕ) → IsCaller o caller → ReliesOnOld o first caller (newer ++ t) → ⊥

-- nor relies on an old place to which nothing led
abbrev pub ThirdBarrierEndsOldPlaces : Type 0
ThirdBarrierEndsOldPlaces =
    (o : Opening) (place : ℕ) (newer t : Execution) → Valid o (newer ++ t) →
    IsShutOver (IsShutForOldPlace place o) newer t → IsQuiescent o t (newer ++ t) →
    (caller : ℕ) → IsCaller o caller → reached caller place (newer ++ t) ≡ true → ⊥

-- nor stands on a side of a root that was not in use
abbrev pub BarrierEndsUnusedSide : Type 0
BarrierEndsUnusedSide =
    (o : Opening) (part side : ℕ) (newer t : Execution) → Valid o (newer ++ t) →
    IsShutOver (IsShutForSide part side o) newer t → IsQuiescent o t (newer ++ t) →
    (caller : ℕ) → IsCaller o caller → StandsOnSide part side caller (newer ++ t) → ⊥
