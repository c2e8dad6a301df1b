-- What a caller observed of the free stack, and relies on until its read section ends.
use Rattle.std.specs.Prelude.{◌≡◌, ℕ, zero, suc, Bool, cond}
use Rattle.index_machine.specs.declared.events.Action.{Action}
use Rattle.index_machine.specs.declared.events.Action.TheVariants.{Enter, Leave}
use Rattle.index_machine.specs.declared.events.Action.TheVariants.{LoadFree, LoadFreeLink, PopFree}
use Rattle.index_machine.specs.declared.opening.Opening.{Opening}
use Rattle.index_machine.specs.Execution.{Execution, own}
use Rattle.index_machine.specs.Sections.{IsCaller}

-- no row, a row that was loaded as the head, or such a row and the link that it had when its link
-- was loaded
pub data ObservedHead : Type 0 where
  NoHead : ObservedHead
  Head : ℕ → ObservedHead
  HeadAndLink : ℕ → ℕ → ObservedHead

-- what a load of this head word observes, which names no row where it is 0
abbrev pub head_of : ℕ → ObservedHead
head_of zero = NoHead
head_of (suc n) = Head (suc n)

-- what a hand observes after an action, its own or not, where it observed this before
abbrev pub observed_after : Bool → Action → ObservedHead → ObservedHead
observed_after mine (Enter n) observed = cond mine NoHead observed
observed_after mine (Leave n) observed = cond mine NoHead observed
observed_after mine (LoadFree found) observed = cond mine (head_of found) observed
observed_after mine (LoadFreeLink place found) observed =
    cond mine (HeadAndLink place found) observed
observed_after mine (PopFree place next) observed = cond mine NoHead observed
observed_after mine _ observed = observed

-- what the hand observed in its present read section
abbrev pub observed_head : ℕ → Execution → ObservedHead
observed_head hand t = own observed_after NoHead hand t

-- the row at this place is the one that was observed
abbrev pub IsObservedRow : ℕ → ObservedHead → Type 0
IsObservedRow place NoHead = ⊥
IsObservedRow place (Head observed) = place ≡ observed
IsObservedRow place (HeadAndLink observed link) = place ≡ observed

-- the hand observed this row as the head, in its present read section
abbrev pub Observes : ℕ → ℕ → Execution → Type 0
Observes hand place t = IsObservedRow place (observed_head hand t)

-- no caller observes this row
abbrev pub IsUnobserved : Opening → ℕ → Execution → Type 0
IsUnobserved o place t = (caller : ℕ) → IsCaller o caller → Observes caller place t → ⊥
