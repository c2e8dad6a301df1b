-- Whose each record place is, and the free stack.
--
-- The fact to remember: a place that is in a group has a key.
use Rattle.std.specs.Prelude.{◌≡◌, ◌≢◌, ℕ, cond, ◌==◌, Option, Some, None, List, [], ◌∷◌}
use Rattle.map_model.specs.Map.{key_of}
use Rattle.word_layout.specs.Places.{rows_from}
use Rattle.index_machine.specs.declared.events.Action.{Action}
use Rattle.index_machine.specs.declared.events.Action.TheVariants.{PopFree, PushFree}
use Rattle.index_machine.specs.declared.events.Action.TheVariants.{LinkRow, Retire}
use Rattle.index_machine.specs.declared.events.Action.TheVariants.{StoreRedirect, NewGroup}
use Rattle.index_machine.specs.declared.opening.Opening.{Opening}
use Rattle.index_machine.specs.Execution.{Execution}
use Rattle.index_machine.specs.OpeningRows.{opening_row, opening_group}
use Rattle.index_machine.specs.Words.{limits, shape}

-- ---- whose a place is ----

-- whose a place is: nobody's, as that of a free row; a hand's own; or of the array of a group, or
-- of its buffer, for a key
pub data Role : Type 0 where
  Unused : Role
  HeldBy : ℕ → Role
  InArray : ℕ → ℕ → Role
  InBuffer : ℕ → ℕ → Role

-- the key of a place that is in a group
abbrev pub role_key : Role → Option ℕ
role_key Unused = None
role_key (HeldBy hand) = None
role_key (InArray group k) = Some k
role_key (InBuffer group k) = Some k

-- a place of this group's array is nobody's
abbrev pub emptied : ℕ → Role → Role
emptied group Unused = Unused
emptied group (HeldBy hand) = HeldBy hand
emptied group (InArray g k) = cond (g == group) Unused (InArray g k)
emptied group (InBuffer g k) = InBuffer g k

-- whose a place with this row of the opening is
abbrev pub role_of_row : Opening → Option (ℕ × ℕ) → Role
role_of_row o None = Unused
role_of_row o (Some row) = InArray (opening_group o row.0) row.0

-- whose the place is as the table is opened: all record rows are free
abbrev pub opening_role : Opening → ℕ → Role
opening_role o place = role_of_row o (opening_row o place)

-- whose the place is after an action of the hand, where it was this before
abbrev pub role_after : ℕ → ℕ → Action → Role → Role
role_after place hand (PopFree popped next) r = cond (popped == place) (HeldBy hand) r
role_after place hand (PushFree pushed head) r = cond (pushed == place) Unused r
role_after place hand (LinkRow group lane linked change before next) r =
    cond (linked == place) (InBuffer group (key_of change)) r
role_after place hand (Retire retired next) r = cond (retired == place) (HeldBy hand) r
role_after place hand (StoreRedirect group new k to) r = cond (new == place) (InArray group k) r
role_after place hand (NewGroup group low high first) r = emptied group r
role_after place hand _ r = r

-- whose the place is after the execution
abbrev pub role : Opening → ℕ → Execution → Role
role o place [] = opening_role o place
role o place (e ∷ t) = role_after place e.by e.action (role o place t)

-- the row at this place is the hand's own, and nobody else can reach it
abbrev pub Holds : Opening → ℕ → ℕ → Execution → Type 0
Holds o hand place t = role o place t ≡ HeldBy hand

-- no row is the hand's own
abbrev pub HoldsNone : Opening → ℕ → Execution → Type 0
HoldsNone o hand t = (place : ℕ) → role o place t ≢ HeldBy hand

-- ---- the free stack ----

-- what stands below the top of a stack
abbrev pub below_top : List ℕ → List ℕ
below_top [] = []
below_top (top ∷ rest) = rest

-- the free stack after an action, where it was this before
abbrev pub free_stack_after : Action → List ℕ → List ℕ
free_stack_after (PopFree place next) rows = below_top rows
free_stack_after (PushFree place head) rows = place ∷ rows
free_stack_after _ rows = rows

-- the places of the free rows, the head first
abbrev pub free_stack : Opening → Execution → List ℕ
free_stack o [] = rows_from (shape o) 0 (limits o).records
free_stack o (e ∷ t) = free_stack_after e.action (free_stack o t)
