-- Which keys stand in a group's array: those of the group.
--
-- The fact to remember: where a caller stands in a group that answers for a key, or did, so it does for each
-- key of its array.
use Rattle.std.specs.Prelude.{◌≡◌, ◌⊎◌, ℕ, ◌+◌, ◌<◌, ◌≤◌, true}
use Rattle.index_machine.specs.declared.opening.Opening.{Opening}
use Rattle.index_machine.specs.Execution.{Execution}
use Rattle.index_machine.specs.KeyRanges.{group_of}
use Rattle.index_machine.specs.Reaching.{stands_in}
use Rattle.index_machine.specs.Rows.{InArray, role}
use Rattle.index_machine.specs.Sections.{IsCaller}
use Rattle.index_machine.specs.Conditions.{Valid}
use Rattle.machine_buffers.specs.Groups.{IsKeyOf, IsOutOfUse}
use Rattle.machine_chain.specs.Chain.{next_of, pivot_of}
use Rattle.machine_chain.specs.Walks.{AnswersFor}

-- the key is not below the group's pivot, and below that of the next group, if there is one
pub record IsFromPivotToNext (o : Opening) (group k : ℕ) (t : Execution) : Type 0 where
  pub from : pivot_of o group t ≤ k
  pub below : (next : ℕ) → next_of o group t ≡ next + 1 → k < pivot_of o next t

-- ---- the laws, over all executions ----

-- each key of an array is one of its group's, unless the group is out of use
abbrev pub ArraysHaveKeysOfTheirGroup : Type 0
ArraysHaveKeysOfTheirGroup =
    (o : Opening) (t : Execution) → Valid o t → (group k place : ℕ) →
    role o place t ≡ InArray group k → IsKeyOf o group k t ⊎ IsOutOfUse o group t

-- a group of the chain answers for each key of its array, and these lie from its pivot to below the next one's
abbrev pub ArraysOfTheChainAreInRange : Type 0
ArraysOfTheChainAreInRange =
    (o : Opening) (t : Execution) → Valid o t → (group j k place : ℕ) → group_of o j t ≡ group →
    role o place t ≡ InArray group k → (group_of o k t ≡ group) × IsFromPivotToNext o group k t

-- where a caller stands in a group that answers for a key, or did, so it does for each key of its array, and
-- these lie from its pivot to below the next one's
abbrev pub KeysOfArraysAreInRange : Type 0
KeysOfArraysAreInRange =
    (o : Opening) (t : Execution) → Valid o t → (caller group j k place : ℕ) → IsCaller o caller →
    stands_in caller group t ≡ true → AnswersFor o j group t →
    role o place t ≡ InArray group k → AnswersFor o k group t × IsFromPivotToNext o group k t
