-- Where the lanes of a buffer begin: at or below the group's least key, and then at keys of the group.
--
-- The fact to remember: a cut stays one of the group's keys, unless another group is begun for it before this one
-- comes into the chain.
use Rattle.std.specs.Prelude.{◌≡◌, ◌≢◌, ◌⊎◌, ℕ, ◌<◌, ◌≤◌, true, Some, [], ◌∷◌, ◌++◌}
use Rattle.word_layout.specs.Headers.{most_lanes}
use Rattle.index_machine.specs.declared.events.Action.{Action}
use Rattle.index_machine.specs.declared.events.Action.TheVariants.{NewGroup}
use Rattle.index_machine.specs.declared.opening.Opening.{Opening}
use Rattle.index_machine.specs.Execution.{Execution, event}
use Rattle.index_machine.specs.KeyRanges.{successor}
use Rattle.index_machine.specs.Lanes.{cut, lanes}
use Rattle.index_machine.specs.Openings.{within}
use Rattle.word_layout.specs.Parts.{greatest_key}
use Rattle.index_machine.specs.Conditions.{Valid}
use Rattle.machine_buffers.specs.Groups.{IsKeyAtSomeStage, IsKeyOf, IsOutOfUse}

-- the group has one to eight lanes, and the first begins at the least of its keys or below
pub record HasLanesForItsKeys (o : Opening) (group : ℕ) (t : Execution) : Type 0 where
  pub some : 1 ≤ lanes o group t
  pub few : lanes o group t ≤ most_lanes
  pub first : (k : ℕ) → k ≤ greatest_key → IsKeyAtSomeStage o group k t → cut o group 0 t ≤ k

-- each cut of the group's lanes is one of its keys, or the group is out of use
abbrev pub CutsAreOfTheGroup : Opening → ℕ → Execution → Type 0
CutsAreOfTheGroup o group t =
    ((lane : ℕ) → lane < lanes o group t → IsKeyAtSomeStage o group (cut o group lane t) t)
    ⊎ IsOutOfUse o group t

-- the action begins another group for a cut of this one, which does not answer for it yet
pub record BeginsOverACut (o : Opening) (group : ℕ) (action : Action) (t : Execution) : Type 0 where
  pub lane : ℕ
  pub is_lane : lane < lanes o group t
  pub unanswered : IsKeyOf o group (cut o group lane t) t → ⊥
  pub other : ℕ
  pub differs : other ≢ group
  pub low : ℕ
  pub high : ℕ
  pub first : ℕ
  pub begins : action ≡ NewGroup other low high first
  pub over : within low (cut o group lane t) high ≡ true

-- none of the newer events does
abbrev pub BeginsOverNoCut : Opening → ℕ → Execution → Execution → Type 0
BeginsOverNoCut o group [] t = Unit {0}
BeginsOverNoCut o group (e ∷ newer) t =
    (BeginsOverACut o group e.action (newer ++ t) → ⊥) × BeginsOverNoCut o group newer t

-- ---- the laws, over all executions ----

-- each group with a key has lanes for its keys
abbrev pub GroupsHaveLanesForTheirKeys : Type 0
GroupsHaveLanesForTheirKeys =
    (o : Opening) (t : Execution) → Valid o t → (group k : ℕ) → k ≤ greatest_key →
    IsKeyAtSomeStage o group k t → HasLanesForItsKeys o group t

-- each cut is a key
abbrev pub CutsAreKeys : Type 0
CutsAreKeys =
    (o : Opening) (t : Execution) → Valid o t → (group lane : ℕ) → lane < lanes o group t →
    cut o group lane t ≤ greatest_key

-- the cuts of a group that was just begun are keys of its range, of which it is the new group
abbrev pub NewCutsAreOfTheGroup : Type 0
NewCutsAreOfTheGroup =
    (o : Opening) (by group low high first : ℕ) (t : Execution) →
    Valid o (event by (NewGroup group low high first) ∷ t) → (lane : ℕ) →
    lane < lanes o group (event by (NewGroup group low high first) ∷ t) →
    (low ≤ cut o group lane (event by (NewGroup group low high first) ∷ t))
    × (cut o group lane (event by (NewGroup group low high first) ∷ t) ≤ high)
    × (successor (cut o group lane (event by (NewGroup group low high first) ∷ t))
    (event by (NewGroup group low high first) ∷ t) ≡ Some group)

-- each cut is of its group as the table is opened
abbrev pub OpeningCutsAreOfTheGroup : Type 0
OpeningCutsAreOfTheGroup = (o : Opening) (group : ℕ) → CutsAreOfTheGroup o group []

-- and stays so, unless another group is begun over one
abbrev pub CutsStayOfTheGroup : Type 0
CutsStayOfTheGroup =
    (o : Opening) (group : ℕ) (newer t : Execution) → Valid o (newer ++ t) →
    BeginsOverNoCut o group newer t → CutsAreOfTheGroup o group t →
    CutsAreOfTheGroup o group (newer ++ t)
