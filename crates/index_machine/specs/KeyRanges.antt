-- Which group answers for a key: the one in the chain, the new one that is to follow it, and the
-- one before the last install.
use Rattle.std.specs.Prelude.{ℕ, cond, ◌==◌, Option, Some, None, [], ◌∷◌}
use Rattle.word_layout.specs.declared.phase.Phase.{Phase}
use Rattle.word_layout.specs.declared.phase.Phase.TheVariants.{Open, Frozen, Opened}
use Rattle.index_machine.specs.declared.events.Action.{Action}
use Rattle.index_machine.specs.declared.events.Action.TheVariants.{NewGroup, Install}
use Rattle.index_machine.specs.declared.opening.Opening.{Opening}
use Rattle.index_machine.specs.Execution.{Execution}
use Rattle.index_machine.specs.Openings.{within, opening_group}
use Rattle.index_machine.specs.Groups.{phase, unless_named}

-- ---- the new group ----

-- the new group of a key after an action, where it was this before: a group that is begun anew is
-- the new group of the keys of its range alone
abbrev pub successor_after : ℕ → Action → Option ℕ → Option ℕ
successor_after k (NewGroup group low high first) s =
    cond (within low k high) (Some group) (unless_named group s)
successor_after k _ s = s

-- the new group of a key, once its header is written
abbrev pub successor : ℕ → Execution → Option ℕ
successor k [] = None
successor k (e ∷ t) = successor_after k e.action (successor k t)

-- ---- the group of the chain ----

-- the group named first, or else the other
abbrev pub or_else : Option ℕ → ℕ → ℕ
or_else None group = group
or_else (Some new) group = new

-- the group of a key after an action, where it was this before and the new group of the key is this
abbrev pub group_after : ℕ → Option ℕ → Action → ℕ → ℕ
group_after k new (Install spot lead low high) group =
    cond (within low k high) (or_else new group) group
group_after k new _ group = group

-- the group of the chain whose key range has the key
abbrev pub group_of : Opening → ℕ → Execution → ℕ
group_of o k [] = opening_group o k
group_of o k (e ∷ t) = group_after k (successor k t) e.action (group_of o k t)

-- ---- the group before ----

-- the group, unless it was opened to the rebuild with this name
abbrev pub unless_opened : ℕ → Phase → ℕ → Option ℕ
unless_opened first Open group = Some group
unless_opened first Frozen group = Some group
unless_opened first (Opened f) group = cond (f == first) None (Some group)

-- the group before is forgotten when it, or the rebuild that it was opened to, is begun anew
abbrev pub remembered : ℕ → (ℕ → Phase) → Option ℕ → Option ℕ
remembered new phases None = None
remembered new phases (Some g) = cond (g == new) None (unless_opened new (phases g) g)

-- the group that had a key before its last install, after an action, where it was this before
abbrev pub predecessor_after : ℕ → ℕ → (ℕ → Phase) → Action → Option ℕ → Option ℕ
predecessor_after k group phases (Install spot lead low high) p =
    cond (within low k high) (Some group) p
predecessor_after k group phases (NewGroup new low high first) p = remembered new phases p
predecessor_after k group phases _ p = p

-- the group that had the key before its last install, as long as it is not begun anew
abbrev pub predecessor : Opening → ℕ → Execution → Option ℕ
predecessor o k [] = None
predecessor o k (e ∷ t) =
    predecessor_after k (group_of o k t) (λ g. phase g t) e.action (predecessor o k t)
