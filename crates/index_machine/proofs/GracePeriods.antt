-- Which rows no caller observes.
--
-- The fact to remember: a caller that has left since observes no row that was in no stack when the
-- grace period began, and was not given back since (ends_observed_head). A row that nobody observes
-- stays so until it is pushed (unobserved_on).
use Rattle.std.proofs.Common.{◌≡◌, ◌≢◌, ⊎_elim, ℕ, [], ◌∷◌, ◌++◌, sym, ap, ◌∙◌, subst}
use Rattle.word_layout.specs.Places.{IsRow}
use Rattle.word_layout.specs.Words.{FreeHead}
use Rattle.index_machine.specs.declared.events.Action.{Action}
use Rattle.index_machine.specs.declared.events.Action.TheVariants.{PushFree}
use Rattle.index_machine.specs.declared.opening.Opening.{Opening}
use Rattle.index_machine.specs.Execution.{Execution, Without}
use Rattle.index_machine.specs.Words.{shape, word}
use Rattle.index_machine.specs.Sections.{IsCaller, HasLeft}
use Rattle.index_machine.specs.Rows.{Unused, role, Holds}
use Rattle.index_machine.specs.ObservedHeads.{Observes, IsUnobserved}
use Rattle.index_machine.specs.Conditions.{Allowed, Valid}
use Rattle.index_machine.specs.HeadLaws.{IsNoPushOf, IsNotPushed}
use Rattle.index_machine.proofs.Linking.{top_free}
use Rattle.index_machine.proofs.Placing.{held_by-same, holds_on}
use Rattle.index_machine.proofs.Observing.{MayLoadHead, observed_before, heads_hold, free_role}
use Rattle.index_machine.proofs.Barring.{Withdrawn, ShutOver, left_none, none_on}

-- the record row at this place is in no stack
abbrev IsTaken : Opening → ℕ → Execution → Type 0
IsTaken o place t = IsRow (shape o) place → role o place t ≢ Unused

-- ---- a row in no stack ----

-- it stays so while it is not pushed
taken_on : (o : Opening) (place : ℕ) (newer t : Execution) → Valid o (newer ++ t) →
    IsNotPushed place newer → IsTaken o place t → IsTaken o place (newer ++ t)
taken_on o place [] t valid others taken row free = taken row free
taken_on o place (e ∷ newer) t valid others taken row free =
    taken_on o place newer t valid.1 others.1 taken row
    (free_role o (newer ++ t) e.by e.action valid.1 place row others.0 free)

shut_over : (o : Opening) (place : ℕ) (newer t : Execution) → Valid o (newer ++ t) →
    IsNotPushed place newer → IsTaken o place t → ShutOver (IsTaken o place) newer t
shut_over o place [] t valid others taken = tt
shut_over o place (e ∷ newer) t valid others taken = (
  taken_on o place newer t valid.1 others.1 taken,
  shut_over o place newer t valid.1 others.1 taken,
)

-- and no load of the head finds it
observing : (o : Opening) (place : ℕ) →
    Withdrawn o (λ hand t. Observes hand place t) (IsTaken o place)
observing o place t by action valid may taken hand observed =
    let before = observed_before o t by action may hand place observed in (
      ⊎_elim
          (λ (earlier : Observes hand place t). earlier)
          (λ (loaded : MayLoadHead o hand place t).
          let some : word o t FreeHead ≢ 0 = λ e. loaded.1 (sym loaded.0 ∙ e) in
          let free = top_free o t valid some in
          absurd (taken (subst (IsRow (shape o)) loaded.0 free.1)
          (ap (λ (p : ℕ). role o p t) (sym loaded.0) ∙ free.0)))
          before.0,
      before.1,
    )

-- ---- grace periods ----

-- a caller that has left since observes no row that was in no stack, and was not given back
pub ends_observed_head : (o : Opening) (caller place : ℕ) (newer t : Execution) →
    Valid o (newer ++ t) → IsCaller o caller → role o place t ≢ Unused →
    IsNotPushed place newer → HasLeft caller t (newer ++ t) →
    Observes caller place (newer ++ t) → ⊥
ends_observed_head o caller place newer t valid known taken others left observed =
    left_none o (λ hand t. Observes hand place t) (IsTaken o place) (observing o place)
    (λ t valid caller known observed.
    (heads_hold o t valid).inside caller place known observed)
    newer t valid (shut_over o place newer t valid others (λ row. taken)) caller known left observed

-- and a row in no stack that nobody observes stays so
pub unobserved_on : (o : Opening) (place : ℕ) (newer t : Execution) → Valid o (newer ++ t) →
    IsNotPushed place newer → role o place t ≢ Unused → IsUnobserved o place t →
    IsUnobserved o place (newer ++ t)
unobserved_on o place newer t valid others taken none caller known observed =
    none_on o (λ hand t. Observes hand place t) (IsTaken o place) (observing o place)
    newer t valid (shut_over o place newer t valid others (λ row. taken)) none caller known observed

-- a row in a hand is pushed by that hand alone
pub others_push_none : (o : Opening) (place hand : ℕ) (newer t : Execution) → Valid o (newer ++ t) →
    Without hand newer → Holds o hand place t → IsNotPushed place newer
others_push_none o place hand [] t valid without mine = tt
others_push_none o place hand (e ∷ newer) t valid without mine = (
  no_push e.by e.action valid.0 without.0,
  others_push_none o place hand newer t valid.1 without.1 mine,
)
  where
    no_push : (by : ℕ) (action : Action) → Allowed o (newer ++ t) by action → by ≢ hand →
        IsNoPushOf place action
    no_push by (PushFree pushed head) may differ = λ (e : pushed ≡ place).
        let held = holds_on o hand place newer t valid.1 without.1 mine in
        let theirs = subst (λ (p : ℕ). Holds o by p (newer ++ t)) e may.held in
        differ (held_by-same (sym theirs ∙ held))
    no_push by action may differ = tt
