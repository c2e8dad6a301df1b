-- Versions count changes: a version is raised by a change of the key alone, and never past the
-- last one.
use Rattle.std.proofs.Common.{◌≡◌, ◌≢◌, ℕ, ◌+◌, ◌<◌, ◌≤◌, ◌⊎◌, inl, inr, ⊎_elim, Some, Bool}
use Rattle.std.proofs.Common.{true, false, [], ◌∷◌, cond, refl, sym, ap, ◌∙◌, subst, arith}
use Rattle.std.specs.Prelude.{◌==◌}
use mathlib.Core.Logic.{dite}
use native.Mathlib.Decide.{ℕ_discrete}
use Rattle.map_model.specs.Map.{key_of}
use Rattle.map_model.specs.History.{History, changes_at}
use Rattle.map_model.specs.declared.entries.Change.{Change}
use Rattle.index_machine.proofs.Executions.{choice-other, choice-same}
use Rattle.index_machine.specs.Conditions.{Allowed, Valid}
use Rattle.index_machine.specs.Execution.{Execution, event}
use Rattle.index_machine.specs.Forms.{Blank, Copied, Form, Locked, Moved, Redirect, Unlocked}
use Rattle.index_machine.specs.Forms.{copied_away, last_version, made_direct, put_value, with_lock}
use Rattle.index_machine.specs.Forms.{with_value, without_lock}
use Rattle.index_machine.specs.LivePlaces.{history}
use Rattle.index_machine.proofs.OpeningRows.{opening_form-keyed}
use Rattle.index_machine.specs.Places.{first_version, form}
use Rattle.index_machine.specs.RecordConditions.{MayUnlock}
use Rattle.index_machine.specs.Rows.{HeldBy, InArray, InBuffer, Role, Unused, role, role_key}
use Rattle.index_machine.specs.Sections.{IsCaller}
use Rattle.index_machine.specs.declared.events.Action.{Action}
use Rattle.index_machine.specs.declared.events.Action.TheVariants.{Close, Copy, LinkRow, Lock}
use Rattle.index_machine.specs.declared.events.Action.TheVariants.{StoreDirect, StoreMoved}
use Rattle.index_machine.specs.declared.events.Action.TheVariants.{StoreRedirect, StoreValue}
use Rattle.index_machine.specs.declared.events.Action.TheVariants.{Unlock}
use Rattle.index_machine.specs.declared.opening.Opening.{Opening}
use Rattle.machine_barriers.proofs.Reaches.{caller_not_keeper}
use Rattle.index_machine.proofs.Options.{none_some, some_is}
use Rattle.machine_readers.proofs.Roles.{IsLinkOf, array_back, row_back}
use Rattle.machine_readers.proofs.Versions.{keyed_not}
use Rattle.machine_readers.specs.Versions.{HasVersion, VersionsCount}

-- ---- a version after so many changes ----

abbrev pub IsVersion : Opening → ℕ → ℕ → Type 0
IsVersion o n v =
    (first_version o ≤ v) × (v ≤ first_version o + n)
    × (first_version o ≤ last_version → v ≤ last_version)

-- the version of the form is such a one, and that which a caller holds locked can be raised
abbrev pub IsCounted : Opening → ℕ → Form → Type 0
IsCounted o n Blank = Unit {0}
IsCounted o n (Unlocked v r x) = IsVersion o n v
IsCounted o n (Locked c v r x y) = IsVersion o n v × (IsCaller o c → v < last_version)
IsCounted o n (Copied v r x) = IsVersion o n v
IsCounted o n (Redirect p y) = Unit {0}
IsCounted o n Moved = Unit {0}

first_counts : (o : Opening) (n : ℕ) → IsVersion o n (first_version o)
first_counts o n = (omega arith, omega arith, λ fits. fits)

raised_counts : (o : Opening) (n v : ℕ) → IsVersion o n v → v < last_version →
    IsVersion o (n + 1) (v + 1)
raised_counts o n v old below =
    let a = old.0 in let b = old.1 in
    (omega (arith, a), omega (arith, b), λ fits. omega (arith, below))

later_version : (o : Opening) (n m v : ℕ) → n ≤ m → IsVersion o n v → IsVersion o m v
later_version o n m v more old = let b = old.1 in (old.0, omega (arith, b, more), old.2)

later : (o : Opening) (n m : ℕ) (f : Form) → n ≤ m → IsCounted o n f → IsCounted o m f
later o n m Blank more h = tt
later o n m (Unlocked v r x) more h = later_version o n m v more h
later o n m (Locked c v r x y) more h = (later_version o n m v more h.0, h.1)
later o n m (Copied v r x) more h = later_version o n m v more h
later o n m (Redirect p y) more h = tt
later o n m Moved more h = tt

-- ---- changes of a form ----

counted_if : (o : Opening) (n : ℕ) (b : Bool) (f g : Form) → IsCounted o n f → IsCounted o n g →
    IsCounted o n (cond b f g)
counted_if o n true f g x y = x
counted_if o n false f g x y = y

counted_stored : (o : Opening) (n y : ℕ) (f : Form) → IsCounted o n f →
    IsCounted o n (with_value y f)
counted_stored o n y Blank h = h
counted_stored o n y (Unlocked v r x) h = h
counted_stored o n y (Locked c v r x z) h = h
counted_stored o n y (Copied v r x) h = h
counted_stored o n y (Redirect p z) h = tt
counted_stored o n y Moved h = h

counted_copied : (o : Opening) (n : ℕ) (f : Form) → IsCounted o n f →
    IsCounted o n (copied_away f)
counted_copied o n Blank h = h
counted_copied o n (Unlocked v r x) h = h
counted_copied o n (Locked c v r x z) h = h.0
counted_copied o n (Copied v r x) h = h
counted_copied o n (Redirect p z) h = h
counted_copied o n Moved h = h

counted_direct : (o : Opening) (n : ℕ) (r : Bool) (f : Form) → IsCounted o n f →
    IsCounted o n (made_direct (first_version o) r f)
counted_direct o n r Blank h = h
counted_direct o n r (Unlocked v s x) h = h
counted_direct o n r (Locked c v s x z) h = h
counted_direct o n r (Copied v s x) h = h
counted_direct o n r (Redirect p z) h = first_counts o n
counted_direct o n r Moved h = h

-- ---- the count of changes ----

changes_grow : (k : ℕ) (c : Change) (h : History) → changes_at k h ≤ changes_at k (c ∷ h)
changes_grow k c h = go (key_of c == k)
  where
    n : ℕ
    n = changes_at k h

    go : (w : Bool) → n ≤ cond w (n + 1) n
    go true = omega arith
    go false = omega arith

changes_own : (k : ℕ) (c : Change) (h : History) → key_of c ≡ k →
    changes_at k (c ∷ h) ≡ changes_at k h + 1
changes_own k c h same = choice-same (key_of c) k (changes_at k h + 1) (changes_at k h) same

-- ---- each action on a place that has its key ----

counted_unlock : (o : Opening) (t : Execution) (b q : ℕ) (r : Bool) (d : Change) (p k : ℕ) →
    IsCaller o b → MayUnlock o t b q r d → role_key (role o p t) ≡ Some k →
    IsCounted o (changes_at k (history t)) (form o p t) →
    IsCounted o (changes_at k (d ∷ history t)) (cond (q == p) (without_lock r (form o p t))
    (form o p t))
counted_unlock o t b q r d p k is may keyed h =
    let n : ℕ = changes_at k (history t) in
    let m : ℕ = changes_at k (d ∷ history t) in
    dite (ℕ_discrete q p)
    (λ (z : q ≡ p).
    let here : form o p t ≡ Locked b may.version may.was may.before may.value =
    ap (λ (y : ℕ). form o y t) (sym z) ∙ may.holds in
    let own : key_of d ≡ k =
    some_is (sym may.keyed ∙ (ap (λ (y : ℕ). role_key (role o y t)) z ∙ keyed)) in
    let old : IsCounted o n (Locked b may.version may.was may.before may.value) =
    subst (IsCounted o n) here h in
    subst (IsCounted o m)
    (sym (choice-same q p (without_lock r (form o p t)) (form o p t) z
    ∙ ap (without_lock r) here))
    (subst (λ (i : ℕ). IsVersion o i (may.version + 1)) (sym (changes_own k d (history t) own))
    (raised_counts o n may.version old.0 (old.1 is))))
    (λ (differ : q ≢ p).
    subst (IsCounted o m) (sym (choice-other q p (without_lock r (form o p t)) (form o p t) differ))
    (later o n m (form o p t) (changes_grow k d (history t)) h))

counted_step : (o : Opening) (t : Execution) (b : ℕ) (d : Action) (p k : ℕ) → Allowed o t b d →
    role_key (role o p t) ≡ Some k → IsCounted o (changes_at k (history t)) (form o p t) →
    IsCounted o (changes_at k (history (event b d ∷ t))) (form o p (event b d ∷ t))
counted_step o t b (LinkRow g lane q d prior next) p k may s h =
    let m : ℕ = changes_at k (d ∷ history t) in
    subst (IsCounted o m) (sym (choice-other q p (Unlocked (first_version o) false (put_value d))
    (form o p t) (λ z. keyed_not o t q p k (HeldBy b) may.mine refl s z)))
    (later o (changes_at k (history t)) m (form o p t) (changes_grow k d (history t)) h)
counted_step o t b (StoreRedirect g q j to) p k may s h =
    subst (IsCounted o (changes_at k (history t))) (sym (choice-other q p (Redirect to 0)
    (form o p t) (λ z. keyed_not o t q p k Unused may.unused refl s z))) h
counted_step o t b (Lock q expected) p k may s h =
    let n : ℕ = changes_at k (history t) in
    dite (ℕ_discrete q p)
    (λ (z : q ≡ p).
    let here : form o p t ≡ Unlocked may.version may.removed may.value =
    ap (λ (y : ℕ). form o y t) (sym z) ∙ may.unlocked in
    let old : IsVersion o n may.version = subst (IsCounted o n) here h in
    subst (IsCounted o n)
    (sym (choice-same q p (with_lock b (form o p t)) (form o p t) z ∙ ap (with_lock b) here))
    (old, λ _. may.raisable))
    (λ (differ : q ≢ p). subst (IsCounted o n)
    (sym (choice-other q p (with_lock b (form o p t)) (form o p t) differ)) h)
counted_step o t b (Close q expected) p k may s h =
    let n : ℕ = changes_at k (history t) in
    let u = may.unlocked in
    dite (ℕ_discrete q p)
    (λ (z : q ≡ p).
    let here : form o p t ≡ Unlocked u.0 u.1 u.2 =
    ap (λ (y : ℕ). form o y t) (sym z) ∙ u.3 in
    let old : IsVersion o n u.0 = subst (IsCounted o n) here h in
    subst (IsCounted o n)
    (sym (choice-same q p (with_lock b (form o p t)) (form o p t) z ∙ ap (with_lock b) here))
    (old, λ is. let keeper = may.keeper.3 in caller_not_keeper o b is (omega arith)))
    (λ (differ : q ≢ p). subst (IsCounted o n)
    (sym (choice-other q p (with_lock b (form o p t)) (form o p t) differ)) h)
counted_step o t b (StoreValue q y) p k may s h =
    let n : ℕ = changes_at k (history t) in
    counted_if o n (q == p) (with_value y (form o p t)) (form o p t)
    (counted_stored o n y (form o p t) h) h
counted_step o t b (Copy q y) p k may s h =
    let n : ℕ = changes_at k (history t) in
    counted_if o n (q == p) (with_value y (form o p t)) (form o p t)
    (counted_stored o n y (form o p t) h) h
counted_step o t b (Unlock q r d raised) p k may s h =
    counted_unlock o t b q r d p k may.0 may.1 s h
counted_step o t b (StoreMoved q) p k may s h =
    counted_if o (changes_at k (history t)) (q == p) Moved (form o p t) tt h
counted_step o t b (StoreDirect a q j r raised) p k may s h =
    let n : ℕ = changes_at k (history t) in
    counted_if o n (a == p) (made_direct (first_version o) r (form o p t))
    (cond (q == p) (copied_away (form o p t)) (form o p t))
    (counted_direct o n r (form o p t) h)
    (counted_if o n (q == p) (copied_away (form o p t)) (form o p t)
    (counted_copied o n (form o p t) h) h)
counted_step o t b d p k may s h = h

-- ---- a place that comes to have its key ----

-- the action gives the place its key: it is linked, or forwards
abbrev GivesKey : ℕ → Action → Type 0
GivesKey p d =
    ((g : ℕ) × (l : ℕ) × (c : Change) × (u : ℕ) × (v : ℕ) × (d ≡ LinkRow g l p c u v))
    ⊎ ((g : ℕ) × (j : ℕ) × (to : ℕ) × (d ≡ StoreRedirect g p j to))

key_back : (o : Opening) (t : Execution) (b : ℕ) (d : Action) (p k : ℕ) →
    role_key (role o p (event b d ∷ t)) ≡ Some k →
    (role_key (role o p t) ≡ Some k) ⊎ GivesKey p d
key_back o t b d p k e = go (role o p (event b d ∷ t)) refl e
  where
    go : (s : Role) → role o p (event b d ∷ t) ≡ s → role_key s ≡ Some k →
        (role_key (role o p t) ≡ Some k) ⊎ GivesKey p d
    go Unused is z = none_some z
    go (HeldBy c) is z = none_some z
    go (InArray g j) is z =
        ⊎_elim (λ (w : role o p t ≡ InArray g j). inl (ap role_key w ∙ z))
        (λ (w : (to : ℕ) × (d ≡ StoreRedirect g p j to)). inr (inr (g, j, w.0, w.1)))
        (array_back o t b d p g j is)
    go (InBuffer g j) is z =
        ⊎_elim (λ (w : role o p t ≡ InBuffer g j). inl (ap role_key w ∙ z))
        (λ (w : IsLinkOf g p j d). inr (inl (g, w.lane, w.change, w.before, w.next, w.is)))
        (row_back o t b d p g j is)

given_counts : (o : Opening) (t : Execution) (b : ℕ) (d : Action) (p n : ℕ) → GivesKey p d →
    IsCounted o n (form o p (event b d ∷ t))
given_counts o t b d p n gives =
    ⊎_elim
    (λ (z : (g : ℕ) × (l : ℕ) × (c : Change) × (u : ℕ) × (v : ℕ)
    × (d ≡ LinkRow g l p c u v)).
    subst (λ (y : Action). IsCounted o n (form o p (event b y ∷ t))) (sym z.5)
    (subst (IsCounted o n)
    (sym (choice-same p p (Unlocked (first_version o) false (put_value z.2)) (form o p t) refl))
    (first_counts o n)))
    (λ (z : (g : ℕ) × (j : ℕ) × (to : ℕ) × (d ≡ StoreRedirect g p j to)).
    subst (λ (y : Action). IsCounted o n (form o p (event b y ∷ t))) (sym z.3)
    (subst (IsCounted o n) (sym (choice-same p p (Redirect z.2 0) (form o p t) refl)) tt))
    gives

-- ---- all places ----

pub counted : (o : Opening) (t : Execution) → Valid o t → (p k : ℕ) →
    role_key (role o p t) ≡ Some k → IsCounted o (changes_at k (history t)) (form o p t)
counted o [] valid p k e =
    let first = opening_form-keyed o p k e in
    subst (IsCounted o (changes_at k (history []))) (sym first.1) (first_counts o 0)
counted o (x ∷ t) valid p k e =
    ⊎_elim
    (λ (z : role_key (role o p t) ≡ Some k).
    counted_step o t x.by x.action p k valid.0 z (counted o t valid.1 p k z))
    (λ (z : GivesKey p x.action).
    given_counts o t x.by x.action p (changes_at k (history (x ∷ t))) z)
    (key_back o t x.by x.action p k e)

version_is : (o : Opening) (n v : ℕ) (f : Form) → HasVersion f v → IsCounted o n f →
    IsVersion o n v
version_is o n v Blank e h = absurd e
version_is o n v (Unlocked w r x) e h = subst (IsVersion o n) e h
version_is o n v (Locked c w r x y) e h = subst (IsVersion o n) e h.0
version_is o n v (Copied w r x) e h = subst (IsVersion o n) e h
version_is o n v (Redirect p y) e h = absurd e
version_is o n v Moved e h = absurd e

pub versions_count : (o : Opening) (t : Execution) → Valid o t → VersionsCount o t
versions_count o t valid = record {
  least = λ p k v e has. (known p k v e has).0;
  most = λ p k v e has. (known p k v e has).1;
  last = λ fits p k v e has. (known p k v e has).2 fits;
}
  where
    known : (p k v : ℕ) → role_key (role o p t) ≡ Some k → HasVersion (form o p t) v →
        IsVersion o (changes_at k (history t)) v
    known p k v e has =
        version_is o (changes_at k (history t)) v (form o p t) has (counted o t valid p k e)
