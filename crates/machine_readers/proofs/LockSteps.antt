-- A version lock while others step.
use Rattle.std.proofs.Common.{◌≡◌, ◌≢◌, ℕ, Some, Bool, false, ◌∷◌, cond, sym, ap, ◌∙◌}
use Rattle.std.specs.Prelude.{◌==◌}
use Rattle.index_machine.proofs.Executions.{choice-other}
use Rattle.index_machine.specs.Conditions.{Allowed}
use Rattle.index_machine.specs.Execution.{Execution, event}
use Rattle.index_machine.specs.Forms.{Copied, Locked, Moved, Redirect, Unlocked, copied_away}
use Rattle.index_machine.specs.Forms.{made_direct, put_value, with_lock, with_value}
use Rattle.index_machine.specs.Forms.{without_lock}
use Rattle.index_machine.specs.Places.{first_version, form}
use Rattle.index_machine.specs.Rows.{role, role_key}
use Rattle.index_machine.specs.declared.events.Action.{Action}
use Rattle.index_machine.specs.declared.events.Action.TheVariants.{Close, Copy, LinkRow, Lock}
use Rattle.index_machine.specs.declared.events.Action.TheVariants.{StoreDirect, StoreMoved}
use Rattle.index_machine.specs.declared.events.Action.TheVariants.{StoreRedirect, StoreValue}
use Rattle.index_machine.specs.declared.events.Action.TheVariants.{Unlock}
use Rattle.index_machine.specs.declared.opening.Opening.{Opening}
use Rattle.index_machine.proofs.Options.{none_some}

-- a version lock is nobody else's to change
pub locked_step : (o : Opening) (t : Execution) (b : ℕ) (d : Action) (c p k v x z : ℕ) (r : Bool) →
    Allowed o t b d → b ≢ c → role_key (role o p t) ≡ Some k → form o p t ≡ Locked c v r x z →
    form o p (event b d ∷ t) ≡ Locked c v r x z
locked_step o t b (LinkRow g lane q d prior next) c p k v x z r may n s e =
    choice-other q p (Unlocked (first_version o) false (put_value d)) (form o p t)
    (λ i. none_some (sym (ap role_key may.mine) ∙ (ap (λ (y : ℕ). role_key (role o y t)) i ∙ s)))
    ∙ e
locked_step o t b (StoreRedirect g q j to) c p k v x z r may n s e =
    choice-other q p (Redirect to 0) (form o p t)
    (λ i. none_some (sym (ap role_key may.unused) ∙ (ap (λ (y : ℕ). role_key (role o y t)) i ∙ s)))
    ∙ e
locked_step o t b (Lock q expected) c p k v x z r may n s e =
    choice-other q p (with_lock b (form o p t)) (form o p t)
    (λ i. let bad : Unlocked may.version may.removed may.value ≡ Locked c v r x z = sym may.unlocked
    ∙ (ap (λ (y : ℕ). form o y t) i ∙ e) in cc) ∙ e
locked_step o t b (Close q expected) c p k v x z r may n s e =
    choice-other q p (with_lock b (form o p t)) (form o p t)
    (λ i. let f = may.unlocked in let bad : Unlocked f.0 f.1 f.2 ≡ Locked c v r x z = sym f.3
    ∙ (ap (λ (y : ℕ). form o y t) i ∙ e) in cc) ∙ e
locked_step o t b (StoreValue q w) c p k v x z r may n s e =
    choice-other q p (with_value w (form o p t)) (form o p t)
    (λ i. let f = may.1 in let two : Locked b f.0 f.1 f.2 f.3 ≡ Locked c v r x z = sym f.4
    ∙ (ap (λ (y : ℕ). form o y t) i ∙ e) in let same : b ≡ c = cc in n same) ∙ e
locked_step o t b (Copy q w) c p k v x z r may n s e =
    choice-other q p (with_value w (form o p t)) (form o p t)
    (λ i. let bad : Redirect may.place may.value ≡ Locked c v r x z = sym may.forwards
    ∙ (ap (λ (y : ℕ). form o y t) i ∙ e) in cc) ∙ e
locked_step o t b (Unlock q w d raised) c p k v x z r may n s e =
    choice-other q p (without_lock w (form o p t)) (form o p t)
    (λ i. let f = may.1 in let two : Locked b f.version f.was f.before f.value ≡ Locked c v r x z =
    sym f.holds ∙ (ap (λ (y : ℕ). form o y t) i ∙ e) in let same : b ≡ c = cc in n same) ∙ e
locked_step o t b (StoreMoved q) c p k v x z r may n s e =
    choice-other q p Moved (form o p t) (λ i.
    let bad : Copied may.version may.removed may.value ≡ Locked c v r x z = sym may.copied
    ∙ (ap (λ (y : ℕ). form o y t) i ∙ e) in cc) ∙ e
locked_step o t b (StoreDirect a q j w raised) c p k v x z r may n s e =
    choice-other a p (made_direct (first_version o) w (form o p t))
    (cond (q == p) (copied_away (form o p t)) (form o p t))
    (λ i. let bad : Redirect q may.value ≡ Locked c v r x z = sym may.forwards
    ∙ (ap (λ (y : ℕ). form o y t) i ∙ e) in cc)
    ∙ (choice-other q p (copied_away (form o p t)) (form o p t)
    (λ i. let two : Locked b may.version w may.value may.value ≡ Locked c v r x z = sym may.holds
    ∙ (ap (λ (y : ℕ). form o y t) i ∙ e) in let same : b ≡ c = cc in n same) ∙ e)
locked_step o t b d c p k v x z r may n s e = e
