-- Which keys are a group's, which groups are out of use, so that their rows may be taken out and their
-- headers refilled; and what the phases of groups say of both.
use Rattle.std.specs.Prelude.{◌≡◌, ◌≢◌, ◌⊎◌, ℕ, Some}
use Rattle.index_machine.specs.declared.opening.Opening.{Opening}
use Rattle.index_machine.specs.Execution.{Execution}
use Rattle.index_machine.specs.declared.events.Action.{Action}
use Rattle.index_machine.specs.declared.events.Action.TheVariants.{NewGroup}
use Rattle.index_machine.specs.Groups.{phase}
use Rattle.index_machine.specs.Conditions.{Valid}
use Rattle.word_layout.specs.declared.phase.Phase.TheVariants.{Frozen, Open, Opened}
use Rattle.index_machine.specs.KeyRanges.{group_of, predecessor, successor}
use Rattle.index_machine.specs.Permissions.{IsBufferFor}
use Rattle.index_machine.specs.RebuildConditions.{IsSettled}

-- the group answers for a key, or is a key's new group
abbrev pub IsOfAKey : Opening → ℕ → Execution → Type 0
IsOfAKey o group t =
    ((k : ℕ) × (group_of o k t ≡ group)) ⊎ ((k : ℕ) × (successor k t ≡ Some group))

-- the group answers for no key, is no key's new group, and if it was opened to a rebuild, all groups
-- that were are gone
pub record IsOutOfUse (o : Opening) (group : ℕ) (t : Execution) : Type 0 where
  pub unowned : (k : ℕ) → group_of o k t ≢ group
  pub unawaited : (k : ℕ) → successor k t ≢ Some group
  pub settled : IsSettled o group t

-- the key is one of the group's: the group answers for it, or is to and its old group is opened, or did
-- before the last install
abbrev pub IsKeyOf : Opening → ℕ → ℕ → Execution → Type 0
IsKeyOf o group k t = IsBufferFor o k group t ⊎ (predecessor o k t ≡ Some group)

-- the key is one of the group's, or the group is its new one, at whatever stage of the rebuild
abbrev pub IsKeyAtSomeStage : Opening → ℕ → ℕ → Execution → Type 0
IsKeyAtSomeStage o group k t = IsKeyOf o group k t ⊎ (successor k t ≡ Some group)

-- the action begins this group anew
abbrev pub Begins : ℕ → Action → Type 0
Begins group action =
    (low : ℕ) × (high : ℕ) × (first : ℕ) × (action ≡ NewGroup group low high first)

-- ---- phases ----

-- a frozen group answers for a key
abbrev pub FrozenAreChained : Opening → Execution → Type 0
FrozenAreChained o t = (group : ℕ) → phase group t ≡ Frozen → (k : ℕ) × (group_of o k t ≡ group)

-- a key's new group is the key's group already, or is open and answers for no key yet
abbrev pub NewAreOpenOrChained : Opening → Execution → Type 0
NewAreOpenOrChained o t =
    (k group : ℕ) → successor k t ≡ Some group →
    (group_of o k t ≡ group) ⊎ (((j : ℕ) → group_of o j t ≢ group) × (phase group t ≡ Open))

-- an opened group is no key's new group
abbrev pub OpenedAreNotNew : Opening → Execution → Type 0
OpenedAreNotNew o t =
    (k group first : ℕ) → phase group t ≡ Opened first → successor k t ≢ Some group

-- ---- the laws, over all executions ----

-- each frozen group answers for a key
abbrev pub FrozenGroupsAnswer : Type 0
FrozenGroupsAnswer = (o : Opening) (t : Execution) → Valid o t → FrozenAreChained o t

-- each new group that is not in the chain yet is open
abbrev pub NewGroupsAreOpen : Type 0
NewGroupsAreOpen = (o : Opening) (t : Execution) → Valid o t → NewAreOpenOrChained o t

-- no opened group is a new one
abbrev pub OpenedGroupsAreNotNew : Type 0
OpenedGroupsAreNotNew = (o : Opening) (t : Execution) → Valid o t → OpenedAreNotNew o t
