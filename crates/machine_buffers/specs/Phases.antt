-- Where a phase word says the phase of its group, and what a caller has that saw it.
use Rattle.std.specs.Prelude.{◌≡◌, ℕ, true, false, Some, ◌++◌}
use Rattle.index_machine.specs.declared.opening.Opening.{Opening}
use Rattle.index_machine.specs.Execution.{Execution}
use Rattle.word_layout.specs.declared.phase.Phase.TheVariants.{Opened}
use Rattle.index_machine.specs.Sections.{IsCaller, StaysInside}
use Rattle.index_machine.specs.Groups.{phase}
use Rattle.index_machine.specs.KeyRanges.{predecessor}
use Rattle.index_machine.specs.Permissions.{MayInsertInto}
use Rattle.index_machine.specs.Reaching.{stands_in}
use Rattle.index_machine.specs.Represents.{has_stale_phase}
use Rattle.index_machine.specs.Conditions.{Valid}
use Rattle.machine_buffers.specs.Groups.{IsOfAKey}

-- the phase word of a group that answers for a key, or that is a key's new group, is not stale
abbrev pub PhasesOfKeysAreTrue : Type 0
PhasesOfKeysAreTrue =
    (o : Opening) (t : Execution) → Valid o t → (group : ℕ) → IsOfAKey o group t →
    has_stale_phase group t ≡ false

-- nor that of the group that had a key before, while a caller stands there
abbrev pub PhasesBeforeAreTrue : Type 0
PhasesBeforeAreTrue =
    (o : Opening) (t : Execution) → Valid o t → (caller group k : ℕ) → IsCaller o caller →
    stands_in caller group t ≡ true → predecessor o k t ≡ Some group →
    has_stale_phase group t ≡ false

-- one that is not stale stays so while a caller stands in the group
abbrev pub TruePhasesStay : Type 0
TruePhasesStay =
    (o : Opening) (caller group : ℕ) → IsCaller o caller → (newer t : Execution) →
    Valid o (newer ++ t) → StaysInside caller newer → stands_in caller group t ≡ true →
    has_stale_phase group t ≡ false → has_stale_phase group (newer ++ t) ≡ false

-- an opened phase stays while a caller stands in the group
abbrev pub OpenedPhasesStay : Type 0
OpenedPhasesStay =
    (o : Opening) (caller group first : ℕ) → IsCaller o caller → (newer t : Execution) →
    Valid o (newer ++ t) → StaysInside caller newer →
    stands_in caller group t ≡ true → phase group t ≡ Opened first →
    phase group (newer ++ t) ≡ Opened first

-- an insert permission lasts as long as the read section
abbrev pub InsertPermissionsLast : Type 0
InsertPermissionsLast =
    (o : Opening) (caller group : ℕ) → IsCaller o caller → (newer t : Execution) →
    Valid o (newer ++ t) → StaysInside caller newer → MayInsertInto caller group t →
    MayInsertInto caller group (newer ++ t)
