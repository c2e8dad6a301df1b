-- A barrier, for whatever a caller can come to rely on in a read section and loses as it leaves.
use Rattle.std.proofs.Common.{◌≡◌, ℕ, [], ◌∷◌, ◌++◌, refl, ◌∙◌, arith}
use Rattle.index_machine.proofs.Executions.{valid_before}
use Rattle.index_machine.specs.Conditions.{Valid}
use Rattle.index_machine.specs.Execution.{Execution}
use Rattle.index_machine.specs.Sections.{IsCaller, IsInside, IsQuiescent, crossings}
use Rattle.index_machine.specs.declared.opening.Opening.{Opening}
use Rattle.machine_barriers.proofs.Gains.{inside}
use Rattle.machine_barriers.specs.Barriers.{IsShutBy, IsShutOver}

module _ (o : Opening) (Relies : ℕ → Execution → Type 0) (Shut : Execution → Type 0)
    (shut_by : IsShutBy o Relies Shut) where
  pub had : (c : ℕ) → IsCaller o c → (n t : Execution) → Valid o (n ++ t) → IsShutOver Shut n t →
      Relies c (n ++ t) → Relies c t × (crossings c (n ++ t) ≡ crossings c t)
  had c is [] t valid shut h = (h, refl)
  had c is (e ∷ n) t valid shut h = let a = shut_by
      (n ++ t) e.by e.action valid.1 valid.0 shut.0 c is h in let b =
      had c is n t valid.1 shut.1 a.0 in (b.0, a.1 ∙ b.1)

  -- once all have passed nobody has it
  pub relied_on_by_none : ((t : Execution) → Valid o t → (c : ℕ) → IsCaller o c → Relies c t →
      IsInside c t) → (n t : Execution) → Valid o (n ++ t) → IsShutOver Shut n t →
      IsQuiescent o t (n ++ t) → (c : ℕ) → IsCaller o c → Relies c (n ++ t) → ⊥
  relied_on_by_none inside n t valid shut passed c lt h = let s = had c lt n t valid shut h in
      let i = inside t (valid_before o n t valid) c lt s.0 in let more = passed c lt i in let same =
      s.1 in absurd (omega arith)
