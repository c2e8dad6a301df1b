-- An insert permission lasts as long as the read section.
use Rattle.std.proofs.Common.{◌≡◌, ℕ, inl, inr, ⊎_elim, Some, true, [], ◌∷◌, ◌++◌, sym}
use Rattle.std.proofs.Common.{subst}
use Rattle.index_machine.specs.Conditions.{Allowed, Valid}
use Rattle.index_machine.specs.Execution.{Execution, event}
use Rattle.index_machine.specs.Groups.{rebuild}
use Rattle.index_machine.specs.Permissions.{MayInsertInto}
use Rattle.index_machine.specs.Reaching.{saw_open, saw_opened}
use Rattle.index_machine.specs.Sections.{IsCaller}
use Rattle.index_machine.specs.declared.events.Action.{Action}
use Rattle.index_machine.specs.declared.events.Action.TheVariants.{NewGroup}
use Rattle.index_machine.specs.declared.opening.Opening.{Opening}
use Rattle.machine_barriers.proofs.OpenedGroups.{made_still, seen_named}
use Rattle.machine_buffers.specs.Phases.{InsertPermissionsLast}
use Rattle.machine_readers.proofs.ReadSections.{saw_open_on, saw_opened_on}

-- the rebuild by which a caller has an insert permission still made the group
made_on : (o : Opening) (t : Execution) (b : ℕ) (d : Action) (c g f : ℕ) → Valid o t →
    Allowed o t b d → IsCaller o c → rebuild g t ≡ Some f → saw_opened c f t ≡ true →
    rebuild g (event b d ∷ t) ≡ Some f
made_on o t b (NewGroup h low high i) c g f valid may is made saw =
    made_still h g (Some i) (rebuild g t) f
    (λ z. may.closed c is (subst (λ (y : ℕ). MayInsertInto c y t) (sym z) (inr (f, made, saw))))
    (λ z. may.closed c is (subst (λ (y : ℕ). MayInsertInto c y t) z
    (inr (f, seen_named o t valid c f is saw, saw)))) made
made_on o t b d c g f valid may is made saw = made

pub permission_while : InsertPermissionsLast
permission_while o c g is [] t valid stay l = l
permission_while o c g is (x ∷ n) t valid stay l =
    ⊎_elim
    (λ (z : saw_open c g (n ++ t) ≡ true). inl (saw_open_on c g (x ∷ []) (n ++ t) (stay.0, tt) z))
    (λ (z : (f : ℕ) × (rebuild g (n ++ t) ≡ Some f) × (saw_opened c f (n ++ t) ≡ true)).
    inr (
      z.0,
      made_on o (n ++ t) x.by x.action c g z.0 valid.1 valid.0 is z.1 z.2,
      saw_opened_on c z.0 (x ∷ []) (n ++ t) (stay.0, tt) z.2,
    ))
    (permission_while o c g is n t valid.1 stay.1 l)
