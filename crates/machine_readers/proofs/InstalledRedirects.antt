-- After the install each place of a new array forwards into the group that had the key before,
-- until the old groups of the rebuild are all gone.
use Rattle.std.proofs.Common.{◌≡◌, ◌≢◌, ℕ, ◌⊎◌, inl, inr, ⊎_elim, Option, Some, None, Bool, true}
use Rattle.std.proofs.Common.{false, [], ◌∷◌, cond, refl, sym, ap, ◌∙◌, subst}
use mathlib.Core.Logic.{dite}
use native.Mathlib.Decide.{ℕ_discrete}
use Rattle.index_machine.proofs.Executions.{choice-other, choice-same}
use Rattle.index_machine.specs.Conditions.{Allowed, Valid}
use Rattle.index_machine.specs.Execution.{Execution, event, own}
use Rattle.index_machine.specs.Forms.{Redirect}
use Rattle.index_machine.specs.Groups.{name_used_again, phase}
use Rattle.index_machine.specs.KeyRanges.{group_of, or_else, predecessor, remembered, successor}
use Rattle.index_machine.specs.KeyRanges.{unless_opened}
use Rattle.index_machine.specs.Openings.{within}
use Rattle.index_machine.specs.Permissions.{IsGone, IsReplaced}
use Rattle.index_machine.specs.Places.{IsInGroup, form}
use Rattle.index_machine.specs.Reaching.{stands_in}
use Rattle.index_machine.specs.Rows.{InArray, InBuffer, role}
use Rattle.index_machine.specs.Sections.{IsCaller}
use Rattle.index_machine.specs.declared.events.Action.{Action}
use Rattle.index_machine.specs.declared.events.Action.TheVariants.{Freeze, Install, NewGroup}
use Rattle.index_machine.specs.declared.events.Action.TheVariants.{StoreDirect, StoreOpened}
use Rattle.index_machine.specs.declared.events.Action.TheVariants.{StoreRedirect, Thaw}
use Rattle.index_machine.specs.declared.events.InstallWord.{InstallWord}
use Rattle.index_machine.specs.declared.opening.Opening.{Opening}
use Rattle.machine_barriers.proofs.OpenedGroups.{begun_back, frozen_not, gone_on, open_not}
use Rattle.machine_barriers.proofs.OpenedGroups.{opened_back, opened_groups_hold, opened_is}
use Rattle.machine_barriers.proofs.Reaches.{may_as}
use Rattle.machine_barriers.specs.Barriers.{OpenedGroupsHold}
use Rattle.index_machine.proofs.Options.{none_some, some_is}
use Rattle.machine_readers.proofs.NewRedirects.{new_redirects, target_stays}
use Rattle.machine_readers.proofs.Redirects.{redirect_on}
use Rattle.machine_readers.proofs.Roles.{array_back}
use Rattle.machine_readers.specs.Redirects.{InstalledRedirects, RedirectsInto}
use Rattle.word_layout.specs.declared.phase.Phase.{Phase}
use Rattle.word_layout.specs.declared.phase.Phase.TheVariants.{Frozen, Open, Opened}

-- no group comes to be opened to a rebuild that is over
same_rebuild_back : (o : Opening) (t : Execution) (b : ℕ) (d : Action) (g j f : ℕ) →
    Allowed o t b d →
    phase g t ≡ Opened f → IsGone o g t → phase j (event b d ∷ t) ≡ Opened f → phase j t ≡ Opened f
same_rebuild_back o t b (Freeze i) g j f may at gone e =
    (opened_back i j Frozen (phase j t) f frozen_not e).1
same_rebuild_back o t b (Thaw i) g j f may at gone e =
    (opened_back i j Open (phase j t) f open_not e).1
same_rebuild_back o t b (NewGroup i low high k) g j f may at gone e =
    (begun_back i j (phase j t) f e).2
same_rebuild_back o t b (StoreOpened i k) g j f may at gone e =
    (opened_back i j (Opened k) (phase j t) f
    (λ z. let s = may.siblings g (at ∙ ap (λ (y : ℕ). Opened y) (sym (opened_is z))) in
    gone.unowned s.0 s.1) e).1
same_rebuild_back o t b d g j f may at gone e = e

-- the action begins the group anew, or the group by which its rebuild is named
abbrev Begins : ℕ → ℕ → Action → Type 0
Begins g f d =
    (i : ℕ) × (low : ℕ) × (high : ℕ) × (j : ℕ) × (d ≡ NewGroup i low high j)
    × ((i ≡ g) ⊎ (i ≡ f))

phase_on : (o : Opening) (t : Execution) (b : ℕ) (d : Action) (g f : ℕ) → Allowed o t b d →
    phase g t ≡ Opened f → (Begins g f d → ⊥) → phase g (event b d ∷ t) ≡ Opened f
phase_on o t b (Freeze h) g f may e never =
    choice-other h g Frozen (phase g t)
    (λ z. open_not (sym may.was ∙ (ap (λ (y : ℕ). phase y t) z ∙ e))) ∙ e
phase_on o t b (Thaw h) g f may e never =
    choice-other h g Open (phase g t)
    (λ z. frozen_not (sym may.was ∙ (ap (λ (y : ℕ). phase y t) z ∙ e))) ∙ e
phase_on o t b (StoreOpened h i) g f may e never =
    choice-other h g (Opened i) (phase g t)
    (λ z. frozen_not (sym may.frozen ∙ (ap (λ (y : ℕ). phase y t) z ∙ e))) ∙ e
phase_on o t b (NewGroup h low high i) g f may e never =
    choice-other h g Open (name_used_again h (phase g t))
    (λ z. never (h, low, high, i, refl, inl z))
    ∙ (ap (name_used_again h) e
    ∙ choice-other f h Open (Opened f) (λ z. never (h, low, high, i, refl, inr (sym z))))
phase_on o t b d g f may e never = e

pub replaced_step : (o : Opening) (t : Execution) (b : ℕ) (d : Action) (g : ℕ) →
    Allowed o t b d → OpenedGroupsHold o t → (s : IsReplaced o g t) → (Begins g s.0 d → ⊥) →
    IsReplaced o g (event b d ∷ t)
replaced_step o t b d g may quiet s never = (
  s.0,
  phase_on o t b d g s.0 may s.1 never,
  λ j e.
      gone_on o t b d may quiet j s.0
      (same_rebuild_back o t b d g j s.0 may s.1 (s.2 g s.1) e) s.2,
)

-- the predecessor of a key is not begun anew, nor its rebuild's name used again, while it is
-- remembered
abbrev Forgets : Execution → ℕ → Action → Type 0
Forgets t g d = (f : ℕ) → phase g t ≡ Opened f → Begins g f d → ⊥

-- an action that leaves the group of a key and the one before as they are
on_else : (o : Opening) (t : Execution) (b : ℕ) (d : Action) (a k g : ℕ) → Allowed o t b d →
    OpenedGroupsHold o t → InstalledRedirects o t → Forgets t g d → predecessor o k t ≡ Some g →
    role o a (event b d ∷ t) ≡ InArray (group_of o k t) k
    → RedirectsInto o (event b d ∷ t) g k a ⊎ IsReplaced o g (event b d ∷ t)
on_else o t b d a k g may quiet old never was s = ⊎_elim
    (λ (z : role o a t ≡ InArray (group_of o k t) k).
    ⊎_elim (λ (w : RedirectsInto o t g k a). from z w)
    (λ (w : IsReplaced o g t). inr (replaced_step o t b d g may quiet w (never w.0 w.1)))
    (old a k g was z))
    (λ (z : (to : ℕ) × (d ≡ StoreRedirect (group_of o k t) a k to)).
    absurd ((may_as o t b d (StoreRedirect (group_of o k t) a k z.0) z.1 may).unowned k refl))
    (array_back o t b d a (group_of o k t) k s)
  where
    from : role o a t ≡ InArray (group_of o k t) k → RedirectsInto o t g k a →
        RedirectsInto o (event b d ∷ t) g k a ⊎ IsReplaced o g (event b d ∷ t)
    from z w = ⊎_elim (λ (y : (y : ℕ) × (form o a (event b d ∷ t) ≡ Redirect w.0 y)).
        inl (w.0, y.0, y.1, target_stays o t b d a g k w.0 w.1 may w.2 w.3))
        (λ (y : (p : ℕ) × (j : ℕ) × (r : Bool) × (u : ℕ) × (d ≡ StoreDirect a p j r u)). let r =
        came_here y.0 y.1 y.2 y.3 (may_as o t b d (StoreDirect a y.0 y.1 y.2 y.3) y.4 may) in
        inr (replaced_step o t b d g may quiet r (never r.0 r.1)))
        (redirect_on o t b d a (group_of o k t) k w.0 w.1 may z w.2)
      where
        groups : (h j p : ℕ) → IsInGroup o t g k p → IsInGroup o t h j p → g ≡ h
        groups h j p u v = ⊎_elim
            (λ (x : role o p t ≡ InArray g k).
            ⊎_elim (λ (y : role o p t ≡ InArray h j). let two : InArray g k ≡ InArray h j = sym x
            ∙ y in cc) (λ (y : role o p t ≡ InBuffer h j). let two : InArray g k ≡ InBuffer h j =
            sym x ∙ y in cc) v)
            (λ (x : role o p t ≡ InBuffer g k).
            ⊎_elim (λ (y : role o p t ≡ InArray h j). let two : InBuffer g k ≡ InArray h j = sym x
            ∙ y in cc) (λ (y : role o p t ≡ InBuffer h j). let two : InBuffer g k ≡ InBuffer h j =
            sym x ∙ y in cc) v) u

        came_here : (p j : ℕ) (r : Bool) (raised : ℕ) → Allowed o t b (StoreDirect a p j r raised) →
            IsReplaced o g t
        came_here p j r raised m = let two : Redirect w.0 w.1 ≡ Redirect p m.value = sym w.2
            ∙ m.forwards in let same : w.0 ≡ p = cc in
            let here : IsInGroup o t g k p = subst (λ (i : ℕ). IsInGroup o t g k i) same w.3 in
            let group : g ≡ m.old.0 = groups m.old.0 j p here m.old.1 in
            subst (λ (i : ℕ). IsReplaced o i t) (sym group) m.old.3

installed_redirects_install : (o : Opening) (t : Execution) (b : ℕ) (spot : InstallWord)
    (lead low high : ℕ) → Valid o t → Allowed o t b (Install spot lead low high) →
    InstalledRedirects o t → InstalledRedirects o (event b (Install spot lead low high) ∷ t)
installed_redirects_install o t b spot lead low high valid may old a k g was s =
    go (within low k high) refl
  where
    T : Execution
    T = event b (Install spot lead low high) ∷ t

    no_new : Forgets t g (Install spot lead low high)
    no_new f at x = let bad = x.4 in cc

    go : (w : Bool) → within low k high ≡ w → RedirectsInto o T g k a ⊎ IsReplaced o g T
    go false z = let own : group_of o k T ≡ group_of o k t =
        ap (λ (i : Bool). cond i (or_else (successor k t) (group_of o k t)) (group_of o k t)) z in
        on_else o t b (Install spot lead low high) a k g may
        (opened_groups_hold o t valid) old no_new
        (sym (ap (λ (i : Bool). cond i (Some (group_of o k t)) (predecessor o k t)) z) ∙ was)
        (s ∙ ap (λ (i : ℕ). InArray i k) own)
    go true z = let m = may.opened k z in let h : ℕ = m.1 in
        let own : group_of o k T ≡ h = ap (λ (i : Bool).
        cond i (or_else (successor k t) (group_of o k t)) (group_of o k t)) z
        ∙ ap (λ (i : Option ℕ). or_else i (group_of o k t)) m.3 in
        let prev : group_of o k t ≡ g = some_is
        (sym (ap (λ (i : Bool). cond i (Some (group_of o k t)) (predecessor o k t)) z) ∙ was) in
        inl (subst (λ (i : ℕ). RedirectsInto o t i k a) prev
        (new_redirects o t valid a k h (s ∙ ap (λ (i : ℕ). InArray i k) own) m.3
        (λ i. open_not (sym m.5 ∙ (ap (λ (y : ℕ). phase y t) (sym i) ∙ m.2)))))

opened_kept : (i : ℕ) (x : Phase) (g h : ℕ) → unless_opened i x g ≡ Some h → (f : ℕ) →
    x ≡ Opened f → (f ≢ i) × (g ≡ h)
opened_kept i Open g h e f is = open_not is
opened_kept i Frozen g h e f is = frozen_not is
opened_kept i (Opened j) g h e f is =
    let same : j ≡ f = opened_is is in
    dite (ℕ_discrete j i) (λ (z : j ≡ i). none_some (sym (choice-same j i None (Some g) z) ∙ e))
    (λ (n : j ≢ i).
    ((λ z. n (same ∙ z)), some_is (sym (choice-other j i None (Some g) n) ∙ e)))

unopened_kept : (i : ℕ) (x : Phase) (g h : ℕ) → unless_opened i x g ≡ Some h → g ≡ h
unopened_kept i Open g h e = some_is e
unopened_kept i Frozen g h e = some_is e
unopened_kept i (Opened j) g h e = (opened_kept i (Opened j) g h e j refl).1

pub remembered_back : (t : Execution) (b i low high j g : ℕ) (p : Option ℕ) →
    remembered i (λ h. phase h t) p ≡ Some g →
    (p ≡ Some g) × Forgets t g (NewGroup i low high j)
remembered_back t b i low high j g None e = none_some e
remembered_back t b i low high j g (Some h) e =
    dite (ℕ_discrete h i)
    (λ (z : h ≡ i).
    none_some (sym (choice-same h i None (unless_opened i (phase h t) h) z) ∙ e))
    (λ (n : h ≢ i).
    let kept : unless_opened i (phase h t) h ≡ Some g =
    sym (choice-other h i None (unless_opened i (phase h t) h) n) ∙ e in
    let same : h ≡ g = unopened_kept i (phase h t) h g kept in (
      ap Some same,
      λ f at x.
          let is = begun_is x.4 in
          ⊎_elim (λ (z : x.0 ≡ g). n (same ∙ (sym z ∙ is)))
          (λ (z : x.0 ≡ f).
          (opened_kept i (phase h t) h g kept f (ap (λ (y : ℕ). phase y t) same ∙ at)).0
          (sym z ∙ is)) x.5,
    ))
  where
    begun_is : {u v w z : ℕ} → NewGroup i low high j ≡ NewGroup u v w z → u ≡ i
    begun_is e = cc

installed_redirects_step : (o : Opening) (t : Execution) (b : ℕ) (d : Action) → Valid o t →
    Allowed o t b d → InstalledRedirects o t → InstalledRedirects o (event b d ∷ t)
installed_redirects_step o t b (Install spot lead low high) valid may old =
    installed_redirects_install o t b spot lead low high valid may old
installed_redirects_step o t b (NewGroup i low high f) valid may old = λ a k g was s.
    let w = remembered_back t b i low high f g (predecessor o k t) was in
    on_else o t b (NewGroup i low high f) a k g may (opened_groups_hold o t valid) old w.1 w.0 s
installed_redirects_step o t b d valid may old = λ a k g was s.
    on_else o t b d a k g may (opened_groups_hold o t valid) old
    (λ f at x. let bad = x.4 in cc) was s

pub installed_redirects : (o : Opening) (t : Execution) → Valid o t → InstalledRedirects o t
installed_redirects o [] valid = λ a k g was s. none_some was
installed_redirects o (e ∷ t) valid = installed_redirects_step o t e.by e.action valid.1 valid.0
    (installed_redirects o t valid.1)

-- what a caller that comes late to an old group needs: all arrays of the key's group lead back into
-- it
pub arrives_late : (o : Opening) (t : Execution) → Valid o t → (c k g h : ℕ) → IsCaller o c →
    stands_in c g t ≡ true → predecessor o k t ≡ Some g → group_of o k t ≡ h → (a : ℕ) →
    role o a t ≡ InArray h k → RedirectsInto o t g k a
arrives_late o t valid c k g h is s was own a array =
    ⊎_elim (λ (z : RedirectsInto o t g k a). z)
    (λ (z : IsReplaced o g t). absurd ((z.2 g z.1).empty c is s))
    (installed_redirects o t valid a k g was (array ∙ ap (λ (i : ℕ). InArray i k) (sym own)))
