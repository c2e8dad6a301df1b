-- What a place holds but for version, value and hand, and which actions change this.
use Rattle.std.proofs.Common.{◌≡◌, ◌≢◌, ℕ, ◌⊎◌, inl, inr, Some, Bool, true, false, ◌∷◌, cond}
use Rattle.std.proofs.Common.{refl, sym, ap, ◌∙◌, subst}
use Rattle.std.specs.Prelude.{◌==◌}
use mathlib.Core.Logic.{dite}
use native.Mathlib.Decide.{ℕ_discrete}
use Rattle.index_machine.proofs.Executions.{choice-other, choice-same}
use Rattle.index_machine.specs.Conditions.{Allowed}
use Rattle.index_machine.specs.Execution.{Execution, event}
use Rattle.index_machine.specs.Forms.{Blank, Copied, Form, Locked, Moved, Redirect, Unlocked}
use Rattle.index_machine.specs.Forms.{copied_away, made_direct, put_value, with_lock, with_value}
use Rattle.index_machine.specs.Forms.{without_lock}
use Rattle.index_machine.specs.Places.{first_version, form}
use Rattle.index_machine.specs.Rows.{role, role_key}
use Rattle.index_machine.specs.declared.events.Action.{Action}
use Rattle.index_machine.specs.declared.events.Action.TheVariants.{Close, Copy, LinkRow, Lock}
use Rattle.index_machine.specs.declared.events.Action.TheVariants.{StoreDirect, StoreMoved}
use Rattle.index_machine.specs.declared.events.Action.TheVariants.{StoreRedirect, StoreValue}
use Rattle.index_machine.specs.declared.events.Action.TheVariants.{Unlock}
use Rattle.index_machine.specs.declared.opening.Opening.{Opening}
use Rattle.index_machine.proofs.Options.{none_some}
use Rattle.map_model.specs.declared.entries.Change.{Change}

-- no record yet, the record itself, the record copied away, or a forwarding pointer
pub data Kind : Type 0 where
  Empty : Kind
  Direct : Kind
  Away : Kind
  Forward : Kind

abbrev pub kind : Form → Kind
kind Blank = Empty
kind (Unlocked v r x) = Direct
kind (Locked c v r x y) = Direct
kind (Copied v r x) = Away
kind (Redirect p y) = Forward
kind Moved = Away

-- the action makes the place direct
abbrev pub MakesDirect : ℕ → Action → Type 0
MakesDirect p d = (q : ℕ) × (k : ℕ) × (r : Bool) × (u : ℕ) × (d ≡ StoreDirect p q k r u)

-- the action makes another place direct, and the record of this one stands there
abbrev pub CopiesFrom : ℕ → Action → Type 0
CopiesFrom p d = (a : ℕ) × (k : ℕ) × (r : Bool) × (u : ℕ) × (d ≡ StoreDirect a p k r u)

kind_if : (w : Bool) (f g : Form) → kind f ≡ kind g → kind (cond w f g) ≡ kind g
kind_if true f g e = e
kind_if false f g e = refl

kind-with_lock : (c : ℕ) (f : Form) → kind (with_lock c f) ≡ kind f
kind-with_lock c Blank = refl
kind-with_lock c (Unlocked v r x) = refl
kind-with_lock c (Locked b v r x y) = refl
kind-with_lock c (Copied v r x) = refl
kind-with_lock c (Redirect p y) = refl
kind-with_lock c Moved = refl

kind-with_value : (y : ℕ) (f : Form) → kind (with_value y f) ≡ kind f
kind-with_value y Blank = refl
kind-with_value y (Unlocked v r x) = refl
kind-with_value y (Locked b v r x z) = refl
kind-with_value y (Copied v r x) = refl
kind-with_value y (Redirect p z) = refl
kind-with_value y Moved = refl

kind-without_lock : (r : Bool) (f : Form) → kind (without_lock r f) ≡ kind f
kind-without_lock r Blank = refl
kind-without_lock r (Unlocked v s x) = refl
kind-without_lock r (Locked b v s x z) = refl
kind-without_lock r (Copied v s x) = refl
kind-without_lock r (Redirect p z) = refl
kind-without_lock r Moved = refl

-- what a place of a key holds changes by the copying of its record alone
pub kind_step : (o : Opening) (t : Execution) (b : ℕ) (d : Action) (p k : ℕ) → Allowed o t b d →
    role_key (role o p t) ≡ Some k →
    (kind (form o p (event b d ∷ t)) ≡ kind (form o p t))
    ⊎ ((MakesDirect p d × (kind (form o p (event b d ∷ t)) ≡ Direct))
    ⊎ (CopiesFrom p d × (kind (form o p (event b d ∷ t)) ≡ Away)))
kind_step o t b (LinkRow g lane q d prior next) p k may s =
    inl (ap kind (choice-other q p (Unlocked (first_version o) false (put_value d)) (form o p t)
    (λ z. none_some (sym (ap role_key may.mine)
    ∙ (ap (λ (y : ℕ). role_key (role o y t)) z ∙ s)))))
kind_step o t b (StoreRedirect g q j to) p k may s =
    inl (ap kind (choice-other q p (Redirect to 0) (form o p t)
    (λ z. none_some (sym (ap role_key may.unused)
    ∙ (ap (λ (y : ℕ). role_key (role o y t)) z ∙ s)))))
kind_step o t b (Lock q x) p k may s =
    inl (kind_if (q == p) (with_lock b (form o p t)) (form o p t) (kind-with_lock b (form o p t)))
kind_step o t b (Close q x) p k may s =
    inl (kind_if (q == p) (with_lock b (form o p t)) (form o p t) (kind-with_lock b (form o p t)))
kind_step o t b (StoreValue q y) p k may s =
    inl (kind_if (q == p) (with_value y (form o p t)) (form o p t) (kind-with_value y (form o p t)))
kind_step o t b (Copy q y) p k may s =
    inl (kind_if (q == p) (with_value y (form o p t)) (form o p t) (kind-with_value y (form o p t)))
kind_step o t b (Unlock q r d u) p k may s =
    inl (kind_if (q == p) (without_lock r (form o p t)) (form o p t)
    (kind-without_lock r (form o p t)))
kind_step o t b (StoreMoved q) p k may s = dite (ℕ_discrete q p)
    (λ (z : q ≡ p). inl (ap kind (choice-same q p Moved (form o p t) z)
    ∙ (sym (ap kind may.copied) ∙ ap (λ (y : ℕ). kind (form o y t)) z)))
    (λ (n : q ≢ p). inl (ap kind (choice-other q p Moved (form o p t) n)))
kind_step o t b (StoreDirect a q j r u) p k may s = dite (ℕ_discrete a p)
    (λ (z : a ≡ p).
    inr (inl (
      (q, j, r, u, ap (λ (y : ℕ). StoreDirect y q j r u) z),
      ap kind (choice-same a p (made_direct (first_version o) r (form o p t))
          (cond (q == p) (copied_away (form o p t)) (form o p t)) z)
          ∙ ap (λ (f : Form). kind (made_direct (first_version o) r f))
          (ap (λ (y : ℕ). form o y t) (sym z) ∙ may.forwards),
    )))
    (λ (n : a ≢ p). dite (ℕ_discrete q p)
    (λ (z : q ≡ p).
    inr (inr (
      (a, j, r, u, ap (λ (y : ℕ). StoreDirect a y j r u) z),
      ap kind (choice-other a p (made_direct (first_version o) r (form o p t))
          (cond (q == p) (copied_away (form o p t)) (form o p t)) n
          ∙ choice-same q p (copied_away (form o p t)) (form o p t) z)
          ∙ ap (λ (f : Form). kind (copied_away f))
          (ap (λ (y : ℕ). form o y t) (sym z) ∙ may.holds),
    )))
    (λ (m : q ≢ p).
    inl (ap kind (choice-other a p (made_direct (first_version o) r (form o p t))
    (cond (q == p) (copied_away (form o p t)) (form o p t)) n
    ∙ choice-other q p (copied_away (form o p t)) (form o p t) m))))
kind_step o t b d p k may s = inl refl

-- ---- what the actions that place a place make of it ----

pub linked_kind : (o : Opening) (t : Execution) (b : ℕ) (d : Action) (g lane p : ℕ) (c : Change)
    (u v : ℕ) → d ≡ LinkRow g lane p c u v → kind (form o p (event b d ∷ t)) ≡ Direct
linked_kind o t b d g lane p c u v e =
    subst (λ (i : Action). kind (form o p (event b i ∷ t)) ≡ Direct) (sym e)
    (ap kind
    (choice-same p p (Unlocked (first_version o) false (put_value c)) (form o p t) refl))

pub redirect_kind : (o : Opening) (t : Execution) (b : ℕ) (d : Action) (g p k to : ℕ) →
    d ≡ StoreRedirect g p k to → kind (form o p (event b d ∷ t)) ≡ Forward
redirect_kind o t b d g p k to e =
    subst (λ (i : Action). kind (form o p (event b i ∷ t)) ≡ Forward) (sym e)
    (ap kind (choice-same p p (Redirect to 0) (form o p t) refl))
