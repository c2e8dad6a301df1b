-- A grace period, for whatever a caller can come to have in a read section and loses as it leaves.
--
-- The fact to remember: where nobody can come to have it any more, a caller that has left since
-- does not have it (left_none).
use Rattle.std.proofs.Common.{◌≡◌, ℕ, [], ◌∷◌, ◌++◌, refl, ◌∙◌, arith}
use Rattle.index_machine.specs.declared.events.Action.{Action}
use Rattle.index_machine.specs.declared.opening.Opening.{Opening}
use Rattle.index_machine.specs.Execution.{Execution, event}
use Rattle.index_machine.specs.Sections.{IsCaller, IsInside, HasLeft, crossings}
use Rattle.index_machine.specs.Conditions.{Allowed, Valid}
use Rattle.index_machine.proofs.Executions.{valid_before}

-- while it is shut, who has it after an action had it before, in the same read section
abbrev pub Withdrawn : Opening → (ℕ → Execution → Type 0) → (Execution → Type 0) → Type 0
Withdrawn o Has Shut =
    (t : Execution) (by : ℕ) (action : Action) → Valid o t → Allowed o t by action → Shut t →
    (hand : ℕ) → Has hand (event by action ∷ t) →
    Has hand t × (crossings hand (event by action ∷ t) ≡ crossings hand t)

-- it was shut before each of the newer events
abbrev pub ShutOver : (Execution → Type 0) → Execution → Execution → Type 0
ShutOver Shut [] t = Unit {0}
ShutOver Shut (e ∷ newer) t = Shut (newer ++ t) × ShutOver Shut newer t

module _ (o : Opening) (Has : ℕ → Execution → Type 0) (Shut : Execution → Type 0)
    (withdrawn : Withdrawn o Has Shut) where
  pub had_before : (hand : ℕ) (newer t : Execution) → Valid o (newer ++ t) →
      ShutOver Shut newer t → Has hand (newer ++ t) →
      Has hand t × (crossings hand (newer ++ t) ≡ crossings hand t)
  had_before hand [] t valid shut has = (has, refl)
  had_before hand (e ∷ newer) t valid shut has =
      let last = withdrawn (newer ++ t) e.by e.action valid.1 valid.0 shut.0 hand has in
      let first = had_before hand newer t valid.1 shut.1 last.0 in
      (first.0, last.1 ∙ first.1)

  -- a caller that has left since does not have it
  pub left_none : ((t : Execution) → Valid o t → (caller : ℕ) → IsCaller o caller →
      Has caller t → IsInside caller t) →
      (newer t : Execution) → Valid o (newer ++ t) → ShutOver Shut newer t →
      (caller : ℕ) → IsCaller o caller → HasLeft caller t (newer ++ t) →
      Has caller (newer ++ t) → ⊥
  left_none inside newer t valid shut caller known left has =
      let before = had_before caller newer t valid shut has in
      let was_inside = inside t (valid_before o newer t valid) caller known before.0 in
      let crossed = left was_inside in
      let stayed = before.1 in
      absurd (omega arith)

  -- and where nobody had it, nobody has it
  pub none_on : (newer t : Execution) → Valid o (newer ++ t) → ShutOver Shut newer t →
      ((caller : ℕ) → IsCaller o caller → Has caller t → ⊥) →
      (caller : ℕ) → IsCaller o caller → Has caller (newer ++ t) → ⊥
  none_on newer t valid shut none caller known has =
      none caller known (had_before caller newer t valid shut has).0
