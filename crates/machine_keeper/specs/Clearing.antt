-- When nothing is left of the rebuilds of a part, so that the next one may begin its groups.
--
-- The fact to remember: a part is cleared at first, and again once the old groups of its last rebuild are gone; it stays
-- cleared until its keeper opens a group.
use Rattle.std.specs.Prelude.{◌≡◌, ℕ, ◌∷◌, ◌++◌}
use Rattle.word_layout.specs.declared.phase.Phase.TheVariants.{Opened}
use Rattle.index_machine.specs.declared.events.Action.TheVariants.{Install}
use Rattle.index_machine.specs.declared.events.InstallWord.{InstallWord}
use Rattle.index_machine.specs.declared.opening.Opening.{Opening}
use Rattle.index_machine.specs.Execution.{Execution, event}
use Rattle.index_machine.specs.Keepers.{IsPart, part_of}
use Rattle.index_machine.specs.Groups.{phase}
use Rattle.index_machine.specs.Permissions.{AreGone, IsGone}
use Rattle.index_machine.specs.RebuildConditions.{IsSettled, part_of_spot}
use Rattle.index_machine.specs.Conditions.{Valid}
use Rattle.machine_chain.specs.Keepers.{IsIdle, KeeperOpensNone}
use Rattle.machine_keeper.specs.Staying.{IsOfPastRebuild}

-- each opened group of the part is gone
abbrev pub IsCleared : Opening → ℕ → Execution → Type 0
IsCleared o part t =
    (group first : ℕ) → part_of o group ≡ part → phase group t ≡ Opened first → IsGone o group t

-- no rebuild needs the group: not the one to which it was opened, nor one that it names, nor the one that made it
pub record IsNeededByNone (o : Opening) (group : ℕ) (t : Execution) : Type 0 where
  pub settled : IsSettled o group t
  pub replaced : AreGone o group t
  pub past : IsOfPastRebuild o group t

-- ---- the laws, over all executions ----

-- a part stays cleared while its keeper opens no group, whatever hands do
abbrev pub ClearedPartsStay : Type 0
ClearedPartsStay =
    (o : Opening) (part : ℕ) (newer t : Execution) → Valid o (newer ++ t) →
    KeeperOpensNone o part newer → IsCleared o part t → IsCleared o part (newer ++ t)

-- each part is cleared at first
abbrev pub PartsAreClearedAtFirst : Type 0
PartsAreClearedAtFirst =
    (o : Opening) (part : ℕ) (t : Execution) → Valid o t → KeeperOpensNone o part t →
    IsCleared o part t

-- and from an install on, once the old groups of its rebuild are gone
abbrev pub RebuildsClearParts : Type 0
RebuildsClearParts =
    (o : Opening) (by : ℕ) (at : InstallWord) (first low high : ℕ) (newer t : Execution) →
    Valid o (newer ++ (event by (Install at first low high) ∷ t)) →
    KeeperOpensNone o (part_of_spot o at) newer →
    AreGone o first (newer ++ (event by (Install at first low high) ∷ t)) →
    IsCleared o (part_of_spot o at) (newer ++ (event by (Install at first low high) ∷ t))

-- in a cleared part no rebuild is under way, and none needs a group
abbrev pub GroupsOfClearedPartsAreNeededByNone : Type 0
GroupsOfClearedPartsAreNeededByNone =
    (o : Opening) (t : Execution) → Valid o t → (part : ℕ) → IsPart o part → IsCleared o part t →
    IsIdle o part t × ((group : ℕ) → part_of o group ≡ part → IsNeededByNone o group t)
