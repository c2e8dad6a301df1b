-- Between two loads of one unlocked state with the same version nothing changed at the place.
use Rattle.std.proofs.Common.{◌≡◌, ℕ, ◌<◌, ◌≤◌, ◌⊎◌, inl, inr, ⊎_elim, Some, None, Bool, true}
use Rattle.std.proofs.Common.{false, [], ◌∷◌, ◌++◌, cond, refl, sym, ap, ◌∙◌, subst, arith}
use Rattle.std.specs.Prelude.{◌==◌}
use Rattle.index_machine.proofs.Executions.{choice-other}
use Rattle.index_machine.specs.Conditions.{Allowed, Valid}
use Rattle.index_machine.specs.Execution.{Execution, event}
use Rattle.index_machine.specs.Forms.{Blank, Copied, Form, Locked, Moved, Redirect, Unlocked}
use Rattle.index_machine.specs.Forms.{copied_away, made_direct, put_value, with_lock, with_value}
use Rattle.index_machine.specs.Forms.{without_lock}
use Rattle.index_machine.specs.Places.{first_version, form}
use Rattle.index_machine.specs.Rows.{HeldBy, Role, Unused, role, role_key}
use Rattle.index_machine.specs.declared.events.Action.{Action}
use Rattle.index_machine.specs.declared.events.Action.TheVariants.{Close, Copy, LinkRow, Lock}
use Rattle.index_machine.specs.declared.events.Action.TheVariants.{StoreDirect, StoreMoved}
use Rattle.index_machine.specs.declared.events.Action.TheVariants.{StoreRedirect, StoreValue}
use Rattle.index_machine.specs.declared.events.Action.TheVariants.{Unlock}
use Rattle.index_machine.specs.declared.opening.Opening.{Opening}
use Rattle.index_machine.proofs.Options.{none_some}
use Rattle.machine_readers.specs.Readers.{KeepsKey}

-- past every unlocked state of the version v
abbrev pub IsPast : ℕ → Form → Type 0
IsPast v Blank = ⊥
IsPast v (Unlocked w r x) = v < w
IsPast v (Locked c w r x y) = v ≤ w
IsPast v (Copied w r x) = v ≤ w
IsPast v (Redirect p y) = ⊥
IsPast v Moved = Unit {0}

past_if : (v : ℕ) (b : Bool) (f g : Form) → IsPast v f → IsPast v g → IsPast v (cond b f g)
past_if v true f g x y = x
past_if v false f g x y = y

past_locked : (v c : ℕ) (f : Form) → IsPast v f → IsPast v (with_lock c f)
past_locked v c Blank h = h
past_locked v c (Unlocked w r x) h = let a : v < w = h in omega (arith, a)
past_locked v c (Locked b w r x y) h = h
past_locked v c (Copied w r x) h = h
past_locked v c (Redirect p y) h = h
past_locked v c Moved h = h

past_stored : (v y : ℕ) (f : Form) → IsPast v f → IsPast v (with_value y f)
past_stored v y Blank h = h
past_stored v y (Unlocked w r x) h = h
past_stored v y (Locked b w r x z) h = h
past_stored v y (Copied w r x) h = h
past_stored v y (Redirect p z) h = h
past_stored v y Moved h = h

past_unlocked : (v : ℕ) (r : Bool) (f : Form) → IsPast v f → IsPast v (without_lock r f)
past_unlocked v r Blank h = h
past_unlocked v r (Unlocked w s x) h = h
past_unlocked v r (Locked b w s x z) h = let a : v ≤ w = h in omega (arith, a)
past_unlocked v r (Copied w s x) h = h
past_unlocked v r (Redirect p z) h = h
past_unlocked v r Moved h = h

past_copied : (v : ℕ) (f : Form) → IsPast v f → IsPast v (copied_away f)
past_copied v Blank h = h
past_copied v (Unlocked w s x) h = h
past_copied v (Locked b w s x z) h = h
past_copied v (Copied w s x) h = h
past_copied v (Redirect p z) h = h
past_copied v Moved h = h

past_direct : (v n : ℕ) (r : Bool) (f : Form) → IsPast v f → IsPast v (made_direct n r f)
past_direct v n r Blank h = h
past_direct v n r (Unlocked w s x) h = h
past_direct v n r (Locked b w s x z) h = h
past_direct v n r (Copied w s x) h = h
past_direct v n r (Redirect p z) h = absurd h
past_direct v n r Moved h = h

pub keyed_not : {X : Type 0} (o : Opening) (t : Execution) (q p k : ℕ) (s : Role) → role o q t ≡ s →
    role_key s ≡ None → role_key (role o p t) ≡ Some k → q ≡ p → X
keyed_not o t q p k s e none keyed z = none_some
    (sym none ∙ (ap role_key (sym e) ∙ (ap (λ (y : ℕ). role_key (role o y t)) z ∙ keyed)))

past_step : (o : Opening) (t : Execution) (b : ℕ) (d : Action) (p k v : ℕ) → Allowed o t b d →
    role_key (role o p t) ≡ Some k → IsPast v (form o p t) → IsPast v (form o p (event b d ∷ t))
past_step o t b (LinkRow g lane q d prior next) p k v may s h =
    subst (IsPast v) (sym (choice-other q p (Unlocked (first_version o) false (put_value d))
    (form o p t) (λ z. keyed_not o t q p k (HeldBy b) may.mine refl s z))) h
past_step o t b (StoreRedirect g q j to) p k v may s h =
    subst (IsPast v) (sym (choice-other q p (Redirect to 0) (form o p t)
    (λ z. keyed_not o t q p k Unused may.unused refl s z))) h
past_step o t b (Lock q expected) p k v may s h =
    past_if v (q == p) (with_lock b (form o p t)) (form o p t) (past_locked v b (form o p t) h) h
past_step o t b (Close q expected) p k v may s h =
    past_if v (q == p) (with_lock b (form o p t)) (form o p t) (past_locked v b (form o p t) h) h
past_step o t b (StoreValue q y) p k v may s h =
    past_if v (q == p) (with_value y (form o p t)) (form o p t) (past_stored v y (form o p t) h) h
past_step o t b (Copy q y) p k v may s h = past_if v (q == p) (with_value y (form o p t))
    (form o p t) (past_stored v y (form o p t) h) h
past_step o t b (Unlock q r d raised) p k v may s h =
    past_if v (q == p) (without_lock r (form o p t)) (form o p t)
    (past_unlocked v r (form o p t) h) h
past_step o t b (StoreMoved q) p k v may s h = past_if v (q == p) Moved (form o p t) tt h
past_step o t b (StoreDirect a q j r raised) p k v may s h =
    past_if v (a == p) (made_direct (first_version o) r (form o p t))
    (cond (q == p) (copied_away (form o p t)) (form o p t))
    (past_direct v (first_version o) r (form o p t) h)
    (past_if v (q == p) (copied_away (form o p t)) (form o p t) (past_copied v (form o p t) h) h)
past_step o t b d p k v may s h = h

-- an unlocked place stays as it is, or goes past its version
abbrev StaysOrPasses : Opening → Execution → ℕ → ℕ → Bool → ℕ → Type 0
StaysOrPasses o t p v r x = (form o p t ≡ Unlocked v r x) ⊎ IsPast v (form o p t)

same_if : (v x : ℕ) (r b : Bool) (f g : Form) → (f ≡ Unlocked v r x) ⊎ IsPast v f →
    g ≡ Unlocked v r x → (cond b f g ≡ Unlocked v r x) ⊎ IsPast v (cond b f g)
same_if v x r true f g h e = h
same_if v x r false f g h e = inl e

unlocked_step : (o : Opening) (t : Execution) (b : ℕ) (d : Action) (p k v x : ℕ) (r : Bool) →
    Allowed o t b d → role_key (role o p t) ≡ Some k → form o p t ≡ Unlocked v r x →
    StaysOrPasses o (event b d ∷ t) p v r x
unlocked_step o t b (LinkRow g lane q d prior next) p k v x r may s e =
    inl (choice-other q p (Unlocked (first_version o) false (put_value d)) (form o p t)
    (λ z. keyed_not o t q p k (HeldBy b) may.mine refl s z) ∙ e)
unlocked_step o t b (StoreRedirect g q j to) p k v x r may s e =
    inl (choice-other q p (Redirect to 0) (form o p t)
    (λ z. keyed_not o t q p k Unused may.unused refl s z) ∙ e)
unlocked_step o t b (Lock q expected) p k v x r may s e =
    same_if v x r (q == p) (with_lock b (form o p t)) (form o p t)
    (inr (subst (λ (y : Form). IsPast v (with_lock b y)) (sym e)
    (let a : v ≤ v = omega arith in a))) e
unlocked_step o t b (Close q expected) p k v x r may s e =
    same_if v x r (q == p) (with_lock b (form o p t)) (form o p t)
    (inr (subst (λ (y : Form). IsPast v (with_lock b y)) (sym e)
    (let a : v ≤ v = omega arith in a))) e
unlocked_step o t b (StoreValue q y) p k v x r may s e =
    same_if v x r (q == p) (with_value y (form o p t)) (form o p t) (inl (ap (with_value y) e)) e
unlocked_step o t b (Copy q y) p k v x r may s e =
    same_if v x r (q == p) (with_value y (form o p t)) (form o p t) (inl (ap (with_value y) e)) e
unlocked_step o t b (Unlock q u d raised) p k v x r may s e =
    same_if v x r (q == p) (without_lock u (form o p t)) (form o p t)
    (inl (ap (without_lock u) e)) e
unlocked_step o t b (StoreMoved q) p k v x r may s e =
    same_if v x r (q == p) Moved (form o p t) (inr tt) e
unlocked_step o t b (StoreDirect a q j u raised) p k v x r may s e = inl (go (a == p) (q == p))
  where
    go : (w i : Bool) → cond w (made_direct (first_version o) u (form o p t))
        (cond i (copied_away (form o p t)) (form o p t)) ≡ Unlocked v r x
    go true i = ap (made_direct (first_version o) u) e
    go false true = ap copied_away e
    go false false = e
unlocked_step o t b d p k v x r may s e = inl e

same_on : (o : Opening) (p k v x : ℕ) (r : Bool) (n t : Execution) → Valid o (n ++ t) →
    KeepsKey o p k n t → form o p t ≡ Unlocked v r x → StaysOrPasses o (n ++ t) p v r x
same_on o p k v x r [] t valid s e = inl e
same_on o p k v x r (a ∷ n) t valid s e = ⊎_elim
    (λ (z : form o p (n ++ t) ≡ Unlocked v r x).
    unlocked_step o (n ++ t) a.by a.action p k v x r valid.0 s.0 z)
    (λ (z : IsPast v (form o p (n ++ t))). inr
    (past_step o (n ++ t) a.by a.action p k v valid.0 s.0 z))
    (same_on o p k v x r n t valid.1 s.1 e)

-- where two loads of a state word find one unlocked version, it was that one at each moment between
pub same_between : (o : Opening) (p k v x y : ℕ) (r u : Bool) (m n t : Execution) →
    Valid o (m ++ (n ++ t)) → Valid o (n ++ t) → KeepsKey o p k m (n ++ t) → KeepsKey o p k n t →
    form o p t ≡ Unlocked v r x → form o p (m ++ (n ++ t)) ≡ Unlocked v u y →
    form o p (n ++ t) ≡ Unlocked v r x
same_between o p k v x y r u m n t valid valid1 sm sn e f =
    ⊎_elim (λ (z : form o p (n ++ t) ≡ Unlocked v r x). z)
    (λ (z : IsPast v (form o p (n ++ t))). let a : v < v =
    subst (IsPast v) f (past_on m (n ++ t) valid sm z) in absurd (omega (arith, a)))
    (same_on o p k v x r n t valid1 sn e)
  where
    past_on : (n t : Execution) → Valid o (n ++ t) → KeepsKey o p k n t → IsPast v (form o p t) →
        IsPast v (form o p (n ++ t))
    past_on [] t valid s h = h
    past_on (a ∷ n) t valid s h = past_step o (n ++ t) a.by a.action p k v valid.0 s.0
        (past_on n t valid.1 s.1 h)
