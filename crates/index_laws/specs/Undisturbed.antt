-- A try that nobody disturbs: it is not to be tried again, unless it met a frozen group.
use Rattle.std.specs.Prelude.{◌≡◌, ℕ, Option, [], ◌∷◌, ◌++◌}
use Rattle.map_model.specs.declared.calls.Call.{Call}
use Rattle.index_machine.specs.declared.opening.Opening.{Opening}
use Rattle.index_machine.specs.Execution.{Execution, Without}
use Rattle.index_machine.specs.Places.{form}
use Rattle.tried_calls.specs.declared.tried.Tried.{Tried}
use Rattle.tried_calls.specs.declared.tried.Tried.TheVariants.{Again}
use Rattle.tried_calls.specs.declared.tried.Why.{Why}
use Rattle.tried_calls.specs.declared.tried.Why.TheVariants.{Frozen}
use Rattle.record_cell.specs.Reads.{IsHeldByAnother}
use Rattle.xindex_core.specs.declared.index.Index.{Index}
use Rattle.xindex_core.specs.declared.pass.Pass.{Pass}
use Rattle.xindex_core.specs.Passes.{IsPassOf, known_to, number_of, opening_with}
use Rattle.xindex_core.specs.Tries.{Tries}

-- ---- who steps ----

-- each event is the hand's
abbrev pub IsAllBy : ℕ → Execution → Type 0
IsAllBy hand [] = Unit {0}
IsAllBy hand (e ∷ t) = (e.by ≡ hand) × IsAllBy hand t

-- no other hand made a step between the hand's first and last: what others did stands before all
-- that it did itself
pub record IsUndisturbed (hand : ℕ) (earlier later : Execution) : Type 0 where
  pub others : Execution
  pub own : Execution
  pub known : own ++ (others ++ earlier) ≡ later
  pub apart : Without hand others
  pub alone : IsAllBy hand own

-- ---- who holds a lock ----

-- no hand but this one holds a version lock
abbrev pub OthersHoldNoLock : Opening → ℕ → Execution → Type 0
OthersHoldNoLock o hand t = (place : ℕ) → IsHeldByAnother hand (form o place t) → ⊥

-- ---- the law ----

-- a try that nobody disturbs, and that began while no other hand held a version lock, is to be
-- tried again only where it met a frozen group
abbrev pub UndisturbedTriesEnd : Type 0
UndisturbedTriesEnd =
    (i : Index) (old : Pass) (made : Call) (came : Tried (Option ℕ)) (new : Pass) → IsPassOf i old →
    Tries i old made came new →
    (calm : IsUndisturbed (number_of old) (known_to old) (known_to new)) →
    OthersHoldNoLock (opening_with i) (number_of old) (calm.others ++ known_to old) →
    (why : Why) → came ≡ Again why → (group : ℕ) × (word : ℕ) × (why ≡ Frozen group word)
