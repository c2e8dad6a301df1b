-- Before the install each place of a new array forwards into the group of its key.
use Rattle.std.proofs.Common.{◌≡◌, ◌≢◌, ℕ, inl, inr, ⊎_elim, Option, Some, Bool, true, false}
use Rattle.std.proofs.Common.{[], ◌∷◌, cond, refl, sym, ap, ◌∙◌, subst}
use Rattle.index_machine.proofs.Executions.{choice-other, choice-same}
use Rattle.index_machine.specs.Conditions.{Allowed, Valid}
use Rattle.index_machine.specs.Execution.{Execution, event}
use Rattle.index_machine.specs.Forms.{Redirect}
use Rattle.index_machine.specs.Groups.{unless_named}
use Rattle.index_machine.specs.KeyRanges.{group_of, or_else, successor}
use Rattle.index_machine.specs.Openings.{within}
use Rattle.index_machine.specs.Places.{IsInGroup, form}
use Rattle.index_machine.specs.Rows.{InArray, InBuffer, Role, Unused, emptied, role, role_key}
use Rattle.index_machine.specs.declared.events.Action.{Action}
use Rattle.index_machine.specs.declared.events.Action.TheVariants.{Install, NewGroup, Retire}
use Rattle.index_machine.specs.declared.events.Action.TheVariants.{StoreDirect, StoreRedirect}
use Rattle.index_machine.specs.declared.events.InstallWord.{InstallWord}
use Rattle.index_machine.specs.declared.opening.Opening.{Opening}
use Rattle.machine_barriers.proofs.Reaches.{may_as}
use Rattle.index_machine.proofs.Options.{named_before, none_some, some_is}
use Rattle.machine_readers.proofs.Redirects.{redirect_on}
use Rattle.machine_readers.proofs.Roles.{EndsRole, array_back, role_stays}
use Rattle.machine_readers.specs.Redirects.{NewRedirects, RedirectsInto}

pub in_group_keyed : (o : Opening) (t : Execution) (g k q : ℕ) → IsInGroup o t g k q →
    role_key (role o q t) ≡ Some k
in_group_keyed o t g k q s = ⊎_elim (λ (z : role o q t ≡ InArray g k). ap role_key z)
    (λ (z : role o q t ≡ InBuffer g k). ap role_key z) s

-- what a redirect names keeps its role
pub target_stays : (o : Opening) (t : Execution) (b : ℕ) (d : Action) (a g k q y : ℕ) →
    Allowed o t b d → form o a t ≡ Redirect q y → IsInGroup o t g k q →
    IsInGroup o (event b d ∷ t) g k q
target_stays o t b d a g k q y may point s = ⊎_elim
    (λ (z : role o q (event b d ∷ t) ≡ role o q t).
    ⊎_elim (λ (w : role o q t ≡ InArray g k). inl (z ∙ w))
    (λ (w : role o q t ≡ InBuffer g k). inr (z ∙ w)) s)
    (λ (z : EndsRole o t q d). ⊎_elim
    (λ (w : (n : ℕ) × (d ≡ Retire q n)). absurd
    ((may_as o t b d (Retire q w.0) w.1 may).no_target a y point))
    (λ (w : (g : ℕ) × (low : ℕ) × (high : ℕ) × (f : ℕ) × (j : ℕ) × (d ≡ NewGroup g low high f) ×
    (role o q t ≡ InArray g j)). absurd ((may_as o t b d
    (NewGroup w.0 w.1 w.2 w.3) w.5 may).no_target a q y w.4 point w.6)) z)
    (role_stays o t b d q k may (in_group_keyed o t g k q s))

-- a redirect and its source stay, unless the record is copied
pub redirect_stays : (o : Opening) (t : Execution) (b : ℕ) (d : Action) (a g h k : ℕ) →
    Allowed o t b d → role o a t ≡ InArray h k →
    ((p j : ℕ) (r : Bool) (u : ℕ) → d ≡ StoreDirect a p j r u → ⊥) → RedirectsInto o t g k a →
    RedirectsInto o (event b d ∷ t) g k a
redirect_stays o t b d a g h k may s never z =
    ⊎_elim (λ (w : (y : ℕ) × (form o a (event b d ∷ t) ≡ Redirect z.0 y)).
    (z.0, w.0, w.1, target_stays o t b d a g k z.0 z.1 may z.2 z.3))
    (λ (w : (p : ℕ) × (j : ℕ) × (r : Bool) × (u : ℕ) × (d ≡ StoreDirect a p j r u)).
    absurd (never w.0 w.1 w.2 w.3 w.4)) (redirect_on o t b d a h k z.0 z.1 may s z.2)

not_direct : (o : Opening) (t : Execution) (b : ℕ) (d : Action) (a h k : ℕ) → Allowed o t b d →
    role o a t ≡ InArray h k → group_of o k t ≢ h → (p j : ℕ) (r : Bool) (raised : ℕ) →
    d ≡ StoreDirect a p j r raised → ⊥
not_direct o t b d a h k may s n p j r raised is = let m =
    may_as o t b d (StoreDirect a p j r raised) is may in
    let two : InArray (group_of o j t) j ≡ InArray h k = sym m.here ∙ s in
    let key : j ≡ k = cc in let group : group_of o j t ≡ h = cc in
    n (ap (λ (i : ℕ). group_of o i t) (sym key) ∙ group)

-- the key's group and new group, and the places of its array, are those of before but for some
-- actions
new_redirects_else : (o : Opening) (t : Execution) (b : ℕ) (d : Action) (a k h : ℕ) →
    Allowed o t b d → NewRedirects o t → group_of o k (event b d ∷ t) ≡ group_of o k t →
    successor k t ≡ Some h → role o a (event b d ∷ t) ≡ InArray h k → group_of o k t ≢ h
    → RedirectsInto o (event b d ∷ t) (group_of o k t) k a
new_redirects_else o t b d a k h may old same successors s n = ⊎_elim
    (λ (z : role o a t ≡ InArray h k). redirect_stays o t b d a (group_of o k t) h k may z
    (not_direct o t b d a h k may z n) (old a k h z successors n))
    (λ (z : (to : ℕ) × (d ≡ StoreRedirect h a k to)). written z.0 z.1) (array_back o t b d a h k s)
  where
    written : (to : ℕ) → d ≡ StoreRedirect h a k to →
        RedirectsInto o (event b d ∷ t) (group_of o k t) k a
    written to is = let m = may_as o t b d (StoreRedirect h a k to) is may in let keyed =
        in_group_keyed o t (group_of o k t) k to m.source in
        let kept : role o to (event b (StoreRedirect h a k to) ∷ t) ≡ role o to t =
        choice-other a to (InArray h k) (role o to t)
        (λ i. none_some (sym (ap role_key m.unused)
        ∙ (ap (λ (j : ℕ). role_key (role o j t)) i ∙ keyed))) in
        subst (λ (i : Action). RedirectsInto o (event b i ∷ t) (group_of o k t) k a) (sym is) (
          to,
          0,
          choice-same a a (Redirect to 0) (form o a t) refl,
          ⊎_elim (λ (w : role o to t ≡ InArray (group_of o k t) k). inl (kept ∙ w))
              (λ (w : role o to t ≡ InBuffer (group_of o k t) k). inr (kept ∙ w)) m.source,
        )

new_redirects_new : (o : Opening) (t : Execution) (b g low high f : ℕ) →
    Allowed o t b (NewGroup g low high f) → NewRedirects o t →
    NewRedirects o (event b (NewGroup g low high f) ∷ t)
new_redirects_new o t b g low high f may old a k h s e n = go (within low k high) refl
  where
    not_emptied : g ≡ h → ⊥
    not_emptied z = ⊎_elim (λ (w : role o a t ≡ InArray h k). gone w (role o a t) refl)
        (λ (w : (to : ℕ) × (NewGroup g low high f ≡ StoreRedirect h a k to)). let bad = w.1 in cc)
        (array_back o t b (NewGroup g low high f) a h k s)
      where
        gone : role o a t ≡ InArray h k → (x : Role) → role o a t ≡ x → ⊥
        gone w x _ = let now : emptied g (role o a t) ≡ Unused = ap (emptied g) w
            ∙ choice-same h g Unused (InArray h k) (sym z) in
            let bad : Unused ≡ InArray h k = sym now ∙ s in cc

    go : (w : Bool) → within low k high ≡ w →
        RedirectsInto o (event b (NewGroup g low high f) ∷ t) (group_of o k t) k a
    go true z = absurd (not_emptied (some_is (sym
        (ap (λ (i : Bool). cond i (Some g) (unless_named g (successor k t))) z) ∙ e)))
    go false z = new_redirects_else o t b (NewGroup g low high f) a k h may old refl
        (named_before g (successor k t) h
        (sym (ap (λ (i : Bool). cond i (Some g) (unless_named g (successor k t))) z) ∙ e)).1 s n

new_redirects_install : (o : Opening) (t : Execution) (b : ℕ) (spot : InstallWord)
    (lead low high : ℕ) → Allowed o t b (Install spot lead low high) → NewRedirects o t →
    NewRedirects o (event b (Install spot lead low high) ∷ t)
new_redirects_install o t b spot lead low high may old a k h s e n = go (within low k high) refl
  where
    T : Execution
    T = event b (Install spot lead low high) ∷ t

    go : (w : Bool) → within low k high ≡ w → RedirectsInto o T (group_of o k T) k a
    go true z = absurd (n (ap (λ (i : Bool). cond i (or_else (successor k t) (group_of o k t))
        (group_of o k t)) z ∙ ap (λ (i : Option ℕ). or_else i (group_of o k t)) e))
    go false z = let same : group_of o k T ≡ group_of o k t =
        ap (λ (i : Bool). cond i (or_else (successor k t) (group_of o k t)) (group_of o k t)) z in
        subst (λ (i : ℕ). RedirectsInto o T i k a) (sym same)
        (new_redirects_else o t b (Install spot lead low high) a k h may old same e s
        (λ i. n (same ∙ i)))

new_redirects_step : (o : Opening) (t : Execution) (b : ℕ) (d : Action) → Allowed o t b d →
    NewRedirects o t → NewRedirects o (event b d ∷ t)
new_redirects_step o t b (NewGroup g low high f) may old =
    new_redirects_new o t b g low high f may old
new_redirects_step o t b (Install spot lead low high) may old =
    new_redirects_install o t b spot lead low high may old
new_redirects_step o t b d may old = λ a k h s e n.
    new_redirects_else o t b d a k h may old refl e s n

pub new_redirects : (o : Opening) (t : Execution) → Valid o t → NewRedirects o t
new_redirects o [] valid = λ a k h s e n. none_some e
new_redirects o (e ∷ t) valid = new_redirects_step o t e.by e.action valid.0
    (new_redirects o t valid.1)
