-- What holds as long as nothing is rebuilt: arrays and groups are those of the opening.
use Rattle.std.specs.Prelude.{◌≡◌, ℕ, None}
use Rattle.word_layout.specs.declared.phase.Phase.TheVariants.{Open}
use Rattle.index_machine.specs.declared.opening.Opening.{Opening}
use Rattle.index_machine.specs.Execution.{Execution}
use Rattle.index_machine.specs.Forms.{Form, Blank, Unlocked, Locked}
use Rattle.index_machine.specs.Groups.{phase}
use Rattle.index_machine.specs.KeyRanges.{group_of, successor}
use Rattle.index_machine.specs.Openings.{opening_group}
use Rattle.index_machine.specs.Places.{form}
use Rattle.index_machine.specs.Rows.{InArray, InBuffer, role, opening_role}
use Rattle.index_machine.specs.Conditions.{Valid}
use Rattle.resting_table.specs.NoRebuild.{HasNoRebuild}

-- the form is that of a record in its own place, or of a place without one: it does not forward, and
-- nothing was copied away
abbrev pub IsInPlace : Form → Type 0
IsInPlace Blank = Unit {0}
IsInPlace (Unlocked version removed value) = Unit {0}
IsInPlace (Locked hand version removed before value) = Unit {0}
IsInPlace _ = ⊥

-- no place forwards, and none was copied away
abbrev pub NoPlaceForwards : Type 0
NoPlaceForwards =
    (o : Opening) (t : Execution) → HasNoRebuild t → (place : ℕ) → IsInPlace (form o place t)

-- the arrays are those of the opening
abbrev pub ArraysAreAsOpened : Type 0
ArraysAreAsOpened =
    (o : Opening) (t : Execution) → Valid o t → HasNoRebuild t → (group k place : ℕ) →
    (opening_role o place ≡ InArray group k → role o place t ≡ InArray group k)
    × (role o place t ≡ InArray group k → opening_role o place ≡ InArray group k)

-- the groups are those of the opening: none is to be replaced, and all are open
abbrev pub GroupsAreAsOpened : Type 0
GroupsAreAsOpened =
    (o : Opening) (t : Execution) → HasNoRebuild t →
    ((k : ℕ) → (group_of o k t ≡ opening_group o k) × (successor k t ≡ None))
    × ((group : ℕ) → phase group t ≡ Open)

-- a row stands in the buffer of its key's group
abbrev pub RowsAreInTheirGroup : Type 0
RowsAreInTheirGroup =
    (o : Opening) (t : Execution) → Valid o t → HasNoRebuild t → (place group k : ℕ) →
    role o place t ≡ InBuffer group k → group ≡ opening_group o k

-- so each key has one array place and one row at most
abbrev pub KeysHaveOnePlaceEach : Type 0
KeysHaveOnePlaceEach =
    (o : Opening) (t : Execution) → Valid o t → HasNoRebuild t → (k place other first second : ℕ) →
    (role o place t ≡ InArray first k → role o other t ≡ InArray second k → place ≡ other)
    × (role o place t ≡ InBuffer first k → role o other t ≡ InBuffer second k → place ≡ other)
