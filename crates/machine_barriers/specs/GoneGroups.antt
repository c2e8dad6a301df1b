-- How a group that is gone stays gone.
--
-- The fact to remember: being gone is not enough, since a group that is begun is gone until its
-- install. Two ways lead out of it: the next install, and the old groups of a rebuild.
use Rattle.std.specs.Prelude.{◌≡◌, ℕ, Some, None, ◌∷◌}
use Rattle.word_layout.specs.declared.phase.Phase.TheVariants.{Open, Opened}
use Rattle.index_machine.specs.declared.events.Action.{Action}
use Rattle.index_machine.specs.declared.events.Action.TheVariants.{NewGroup}
use Rattle.index_machine.specs.declared.opening.Opening.{Opening}
use Rattle.index_machine.specs.Execution.{Execution, event}
use Rattle.index_machine.specs.Sections.{IsCaller}
use Rattle.index_machine.specs.Groups.{phase, rebuild}
use Rattle.index_machine.specs.KeyRanges.{group_of, successor}
use Rattle.index_machine.specs.Permissions.{IsGone, AreGone, IsReachable, IsUnopened}
use Rattle.index_machine.specs.Conditions.{Allowed, Valid}

-- no install of a rebuild takes the group into the chain, and nothing leads a caller to it
pub record IsLeftAlone (o : Opening) (group : ℕ) (t : Execution) : Type 0 where
  pub not_awaited : (k first : ℕ) → phase (group_of o k t) t ≡ Opened first →
      successor k t ≡ Some group → rebuild group t ≡ Some first → phase group t ≡ Open → ⊥
  pub unreachable : (caller : ℕ) → IsCaller o caller → IsReachable o caller group t → ⊥

-- ---- the laws, over all executions ----

-- no action ends it that a group is gone which is left alone
abbrev pub GoneGroupsStay : Type 0
GoneGroupsStay =
    (o : Opening) (t : Execution) (by : ℕ) (action : Action) (group : ℕ) →
    Allowed o t by action → IsGone o group t → IsLeftAlone o group t →
    IsGone o group (event by action ∷ t)

-- a group that is begun anew is gone still, until its install
abbrev pub BegunGroupsAreGone : Type 0
BegunGroupsAreGone =
    (o : Opening) (t : Execution) (by group low high first : ℕ) →
    Allowed o t by (NewGroup group low high first) →
    IsGone o group (event by (NewGroup group low high first) ∷ t)

-- once the old groups of a rebuild are gone, each is left alone
abbrev pub ReplacedGroupsAreLeftAlone : Type 0
ReplacedGroupsAreLeftAlone =
    (o : Opening) (t : Execution) → Valid o t → (group first : ℕ) →
    phase group t ≡ Opened first → AreGone o first t → IsLeftAlone o group t

-- so is a gone group that was never begun nor opened
abbrev pub NeverBegunGroupsAreLeftAlone : Type 0
NeverBegunGroupsAreLeftAlone =
    (o : Opening) (t : Execution) → Valid o t → (group : ℕ) → IsGone o group t →
    rebuild group t ≡ None → IsUnopened group t → IsLeftAlone o group t

-- so is a gone group that is not opened, once the old groups of the rebuild that made it are gone
abbrev pub UnopenedGroupsAreLeftAlone : Type 0
UnopenedGroupsAreLeftAlone =
    (o : Opening) (t : Execution) → Valid o t → (group : ℕ) → IsGone o group t →
    IsUnopened group t → ((first : ℕ) → rebuild group t ≡ Some first → AreGone o first t) →
    IsLeftAlone o group t
