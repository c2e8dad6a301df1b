-- A tombstone of an array stays one, and so does one of a buffer into which nobody may insert.
use Rattle.std.proofs.Common.{◌≡◌, ◌≢◌, ℕ, Some, None, Bool, true, false, ◌∷◌, cond, refl, sym, ap}
use Rattle.std.proofs.Common.{◌∙◌}
use Rattle.std.specs.Prelude.{◌==◌}
use mathlib.Core.Logic.{dite}
use native.Mathlib.Decide.{ℕ_discrete}
use Rattle.index_machine.proofs.Executions.{choice-other, choice-same}
use Rattle.index_machine.specs.Conditions.{Allowed}
use Rattle.index_machine.specs.Execution.{Execution, event}
use Rattle.index_machine.specs.Forms.{Blank, Copied, Form, Locked, Moved, Redirect, Unlocked}
use Rattle.index_machine.specs.Forms.{copied_away, is_removed, live_value, made_direct, put_value}
use Rattle.index_machine.specs.Forms.{unless, with_lock, with_value, without_lock}
use Rattle.index_machine.specs.Permissions.{MayInsertInto}
use Rattle.index_machine.specs.Places.{first_version, form}
use Rattle.index_machine.specs.RecordConditions.{MayUnlock}
use Rattle.index_machine.specs.Rows.{InBuffer, role, role_key}
use Rattle.index_machine.specs.Sections.{IsCaller}
use Rattle.index_machine.specs.declared.events.Action.{Action}
use Rattle.index_machine.specs.declared.events.Action.TheVariants.{Close, Copy, LinkRow, Lock}
use Rattle.index_machine.specs.declared.events.Action.TheVariants.{StoreDirect, StoreMoved}
use Rattle.index_machine.specs.declared.events.Action.TheVariants.{StoreRedirect, StoreValue}
use Rattle.index_machine.specs.declared.events.Action.TheVariants.{Unlock}
use Rattle.index_machine.specs.declared.opening.Opening.{Opening}
use Rattle.index_machine.proofs.Options.{none_some, not_so}
use Rattle.map_model.specs.Map.{key_of}
use Rattle.map_model.specs.declared.entries.Change.{Change}

pub removed-has_no_value : (f : Form) → is_removed f ≡ true → live_value f ≡ None
removed-has_no_value Blank e = not_so e
removed-has_no_value (Unlocked v r x) e = ap (λ (y : Bool). unless y x) e
removed-has_no_value (Locked c v r x y) e = ap (λ (z : Bool). unless z x) e
removed-has_no_value (Copied v r x) e = refl
removed-has_no_value (Redirect p y) e = not_so e
removed-has_no_value Moved e = refl

removed_locked : (c : ℕ) (f : Form) → is_removed f ≡ true → is_removed (with_lock c f) ≡ true
removed_locked c Blank e = e
removed_locked c (Unlocked v r x) e = e
removed_locked c (Locked b v r x y) e = e
removed_locked c (Copied v r x) e = e
removed_locked c (Redirect p y) e = e
removed_locked c Moved e = e

removed_stored : (y : ℕ) (f : Form) → is_removed f ≡ true → is_removed (with_value y f) ≡ true
removed_stored y Blank e = e
removed_stored y (Unlocked v r x) e = e
removed_stored y (Locked b v r x z) e = e
removed_stored y (Copied v r x) e = e
removed_stored y (Redirect p z) e = not_so e
removed_stored y Moved e = e

removed_if : (b : Bool) (f g : Form) → is_removed f ≡ true → is_removed g ≡ true →
    is_removed (cond b f g) ≡ true
removed_if true f g e h = e
removed_if false f g e h = h

-- nobody may revive the place
abbrev pub IsNotRevivable : Opening → Execution → ℕ → Type 0
IsNotRevivable o t p = (g k c : ℕ) → IsCaller o c → role o p t ≡ InBuffer g k →
    MayInsertInto c g t → ⊥

removed_unlock : (o : Opening) (t : Execution) (b q p : ℕ) (r : Bool) (d : Change) → IsCaller o b →
    MayUnlock o t b q r d → IsNotRevivable o t p → q ≡ p → is_removed (form o p t) ≡ true →
    is_removed (without_lock r (form o p t)) ≡ true
removed_unlock o t b q p r d is may none z e =
    let at : form o p t ≡ Locked b may.version may.was may.before may.value =
    ap (λ (y : ℕ). form o y t) (sym z) ∙ may.holds in
    let v = may.revives (sym (ap is_removed at) ∙ e) in
    absurd (none v.0 (key_of d) b is (ap (λ (y : ℕ). role o y t) (sym z) ∙ v.1) v.2)

pub removed_step : (o : Opening) (t : Execution) (b : ℕ) (d : Action) (p k : ℕ) → Allowed o t b d →
    role_key (role o p t) ≡ Some k → IsNotRevivable o t p → is_removed (form o p t) ≡ true →
    is_removed (form o p (event b d ∷ t)) ≡ true
removed_step o t b (LinkRow g lane q d prior next) p k may s none e =
    ap is_removed (choice-other q p (Unlocked (first_version o) false (put_value d)) (form o p t)
    (λ z. none_some (sym (ap role_key may.mine) ∙ (ap (λ (y : ℕ). role_key (role o y t)) z ∙ s))))
    ∙ e
removed_step o t b (Lock q expected) p k may s none e =
    removed_if (q == p) (with_lock b (form o p t)) (form o p t) (removed_locked b (form o p t) e) e
removed_step o t b (Close q expected) p k may s none e =
    removed_if (q == p) (with_lock b (form o p t)) (form o p t) (removed_locked b (form o p t) e) e
removed_step o t b (StoreValue q y) p k may s none e =
    removed_if (q == p) (with_value y (form o p t)) (form o p t) (removed_stored y (form o p t) e) e
removed_step o t b (Copy q y) p k may s none e =
    removed_if (q == p) (with_value y (form o p t)) (form o p t) (removed_stored y (form o p t) e) e
removed_step o t b (Unlock q r d raised) p k may s none e = dite (ℕ_discrete q p)
    (λ (z : q ≡ p). ap is_removed (choice-same q p (without_lock r (form o p t)) (form o p t) z)
    ∙ removed_unlock o t b q p r d may.0 may.1 none z e)
    (λ (n : q ≢ p). ap is_removed (choice-other q p (without_lock r (form o p t)) (form o p t) n)
    ∙ e)
removed_step o t b (StoreRedirect g q j to) p k may s none e =
    ap is_removed (choice-other q p (Redirect to 0) (form o p t)
    (λ z. none_some (sym (ap role_key may.unused) ∙ (ap (λ (y : ℕ). role_key (role o y t)) z ∙ s))))
    ∙ e
removed_step o t b (StoreMoved q) p k may s none e = removed_if (q == p) Moved (form o p t) refl e
removed_step o t b (StoreDirect a q j r raised) p k may s none e =
    ap is_removed (choice-other a p (made_direct (first_version o) r (form o p t))
    (cond (q == p) (copied_away (form o p t)) (form o p t))
    (λ z. not_so (ap is_removed (sym may.forwards ∙ ap (λ (y : ℕ). form o y t) z) ∙ e)))
    ∙ removed_if (q == p) (copied_away (form o p t)) (form o p t) (removed_copied (form o p t) e) e
  where
    removed_copied : (f : Form) → is_removed f ≡ true → is_removed (copied_away f) ≡ true
    removed_copied Blank e = e
    removed_copied (Unlocked v r x) e = e
    removed_copied (Locked b v r x z) e = refl
    removed_copied (Copied v r x) e = e
    removed_copied (Redirect p z) e = e
    removed_copied Moved e = e
removed_step o t b d p k may s none e = e
