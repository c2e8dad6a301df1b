-- A redirect names a place of its key in an opened group. What it leads to has no value for good
-- once it is removed, through the copy too.
use Rattle.std.proofs.Common.{◌≡◌, ◌≢◌, ℕ, ◌⊎◌, inl, inr, ⊎_elim, Some, Bool, true, false, [], ◌∷◌}
use Rattle.std.proofs.Common.{cond, refl, sym, ap, ◌∙◌, subst}
use Rattle.std.specs.Prelude.{◌==◌}
use mathlib.Core.Logic.{dite}
use native.Mathlib.Decide.{ℕ_discrete}
use Rattle.index_machine.proofs.Executions.{choice-other, choice-same}
use Rattle.index_machine.specs.Conditions.{Allowed, Valid}
use Rattle.index_machine.specs.Execution.{Execution, event}
use Rattle.index_machine.specs.Forms.{Blank, Copied, Form, Locked, Moved, Redirect, Unlocked}
use Rattle.index_machine.specs.Forms.{copied_away, is_removed, made_direct, put_value, with_lock}
use Rattle.index_machine.specs.Forms.{with_value, without_lock}
use Rattle.index_machine.specs.Groups.{name_used_again, phase}
use Rattle.index_machine.specs.KeyRanges.{group_of}
use Rattle.index_machine.specs.Places.{first_version, form}
use Rattle.index_machine.specs.Rows.{HeldBy, InArray, InBuffer, Unused, role, role_key}
use Rattle.index_machine.specs.declared.events.Action.{Action}
use Rattle.index_machine.specs.declared.events.Action.TheVariants.{Close, Copy, Freeze, LinkRow}
use Rattle.index_machine.specs.declared.events.Action.TheVariants.{Lock, NewGroup, Retire}
use Rattle.index_machine.specs.declared.events.Action.TheVariants.{StoreDirect, StoreMoved}
use Rattle.index_machine.specs.declared.events.Action.TheVariants.{StoreOpened, StoreRedirect}
use Rattle.index_machine.specs.declared.events.Action.TheVariants.{StoreValue, Thaw, Unlock}
use Rattle.index_machine.specs.declared.opening.Opening.{Opening}
use Rattle.machine_barriers.proofs.OpenedGroups.{frozen_not, open_not}
use Rattle.machine_barriers.proofs.Reaches.{may_as}
use Rattle.machine_barriers.specs.Barriers.{OpenedGroupsHold}
use Rattle.index_machine.proofs.Options.{none_some}
use Rattle.machine_readers.proofs.Roles.{EndsRole, array_back, role_stays}
use Rattle.machine_readers.proofs.Tombstones.{IsNotRevivable, removed_step}
use Rattle.machine_readers.specs.Redirects.{HasNoValue, IsOldPlace, RedirectsLeadToOld}
use Rattle.word_layout.specs.declared.phase.Phase.TheVariants.{Frozen, Open, Opened}

locked_back : (c : ℕ) (f : Form) (q y : ℕ) → with_lock c f ≡ Redirect q y → f ≡ Redirect q y
locked_back c Blank q y e = e
locked_back c (Unlocked v r x) q y e = cc
locked_back c (Locked b v r x z) q y e = e
locked_back c (Copied v r x) q y e = e
locked_back c (Redirect p z) q y e = e
locked_back c Moved q y e = e

stored_back : (w : ℕ) (f : Form) (q y : ℕ) → with_value w f ≡ Redirect q y →
    (z : ℕ) × (f ≡ Redirect q z)
stored_back w Blank q y e = (y, e)
stored_back w (Unlocked v r x) q y e = (y, e)
stored_back w (Locked b v r x z) q y e = cc
stored_back w (Copied v r x) q y e = (y, e)
stored_back w (Redirect p z) q y e = (z, let same : p ≡ q = cc in ap (λ (i : ℕ). Redirect i z) same)
stored_back w Moved q y e = (y, e)

unlocked_back : (r : Bool) (f : Form) (q y : ℕ) → without_lock r f ≡ Redirect q y → f ≡ Redirect q y
unlocked_back r Blank q y e = e
unlocked_back r (Unlocked v s x) q y e = e
unlocked_back r (Locked b v s x z) q y e = cc
unlocked_back r (Copied v s x) q y e = e
unlocked_back r (Redirect p z) q y e = e
unlocked_back r Moved q y e = e

direct_back : (n : ℕ) (r : Bool) (f : Form) (q y : ℕ) → made_direct n r f ≡ Redirect q y →
    f ≡ Redirect q y
direct_back n r Blank q y e = e
direct_back n r (Unlocked v s x) q y e = e
direct_back n r (Locked b v s x z) q y e = e
direct_back n r (Copied v s x) q y e = e
direct_back n r (Redirect p z) q y e = cc
direct_back n r Moved q y e = e

copied_back : (f : Form) (q y : ℕ) → copied_away f ≡ Redirect q y → f ≡ Redirect q y
copied_back Blank q y e = e
copied_back (Unlocked v s x) q y e = e
copied_back (Locked b v s x z) q y e = cc
copied_back (Copied v s x) q y e = e
copied_back (Redirect p z) q y e = e
copied_back Moved q y e = e

if_back : (w : Bool) (f g : Form) (q y : ℕ) →
    ((z : ℕ) → f ≡ Redirect q z → (i : ℕ) × (g ≡ Redirect q i)) → cond w f g ≡ Redirect q y →
    (i : ℕ) × (g ≡ Redirect q i)
if_back true f g q y h e = h y e
if_back false f g q y h e = (y, e)

-- a redirect after a step was one before, or the step wrote it
pub redirect_back : (o : Opening) (t : Execution) (b : ℕ) (d : Action) (a q y : ℕ) →
    form o a (event b d ∷ t) ≡ Redirect q y →
    ((z : ℕ) × (form o a t ≡ Redirect q z)) ⊎ ((g : ℕ) × (k : ℕ) × (d ≡ StoreRedirect g a k q))
redirect_back o t b (LinkRow g lane p d prior next) a q y e =
    inl (if_back (p == a) (Unlocked (first_version o) false (put_value d)) (form o a t) q y
    (λ z w. let bad : Unlocked (first_version o) false (put_value d) ≡ Redirect q z = w in cc) e)
redirect_back o t b (Lock p expected) a q y e = inl
    (if_back (p == a) (with_lock b (form o a t)) (form o a t) q y
    (λ z w. (z, locked_back b (form o a t) q z w)) e)
redirect_back o t b (Close p expected) a q y e =
    inl (if_back (p == a) (with_lock b (form o a t)) (form o a t) q y
    (λ z w. (z, locked_back b (form o a t) q z w)) e)
redirect_back o t b (StoreValue p v) a q y e = inl
    (if_back (p == a) (with_value v (form o a t)) (form o a t) q y
    (λ z w. stored_back v (form o a t) q z w) e)
redirect_back o t b (Copy p v) a q y e = inl (if_back (p == a) (with_value v (form o a t))
    (form o a t) q y (λ z w. stored_back v (form o a t) q z w) e)
redirect_back o t b (Unlock p r d raised) a q y e =
    inl (if_back (p == a) (without_lock r (form o a t)) (form o a t) q y
    (λ z w. (z, unlocked_back r (form o a t) q z w)) e)
redirect_back o t b (StoreMoved p) a q y e = inl
    (if_back (p == a) Moved (form o a t) q y (λ z w. let bad : Moved ≡ Redirect q z = w in cc) e)
redirect_back o t b (StoreRedirect g p k to) a q y e = dite (ℕ_discrete p a)
    (λ (z : p ≡ a). let two : Redirect to 0 ≡ Redirect q y =
    sym (choice-same p a (Redirect to 0) (form o a t) z) ∙ e in let same : to ≡ q = cc in
    inr (g, k, cc))
    (λ (n : p ≢ a). inl (y, sym (choice-other p a (Redirect to 0) (form o a t) n) ∙ e))
redirect_back o t b (StoreDirect p from k r raised) a q y e =
    inl (if_back (p == a) (made_direct (first_version o) r (form o a t)) (form o a t) q y
    (λ z w. (z, direct_back (first_version o) r (form o a t) q z w)) (inner (p == a) e))
  where
    inner : (w : Bool) → cond w (made_direct (first_version o) r (form o a t))
        (cond (from == a) (copied_away (form o a t)) (form o a t)) ≡ Redirect q y →
        cond w (made_direct (first_version o) r (form o a t)) (form o a t) ≡ Redirect q y
    inner true e = e
    inner false e = let z = if_back (from == a) (copied_away (form o a t)) (form o a t) q y
        (λ z w. (z, copied_back (form o a t) q z w)) e in deep (from == a) e
      where
        deep : (w : Bool) → cond w (copied_away (form o a t)) (form o a t) ≡ Redirect q y →
            form o a t ≡ Redirect q y
        deep true e = copied_back (form o a t) q y e
        deep false e = e
redirect_back o t b d a q y e = inl (y, e)

pub old_keyed : (o : Opening) (t : Execution) (k q : ℕ) → IsOldPlace o t k q →
    role_key (role o q t) ≡ Some k
old_keyed o t k q s = ⊎_elim (λ (z : role o q t ≡ InArray s.0 k). ap role_key z)
    (λ (z : role o q t ≡ InBuffer s.0 k). ap role_key z) s.3

-- an opened group stays so but where it is begun anew
pub phase_stays : (o : Opening) (t : Execution) (b : ℕ) (d : Action) (h f : ℕ) → Allowed o t b d →
    phase h t ≡ Opened f →
    (phase h (event b d ∷ t) ≡ Opened f)
    ⊎ ((g : ℕ) × (low : ℕ) × (high : ℕ) × (i : ℕ) × (d ≡ NewGroup g low high i)
    × ((g ≡ h) ⊎ (g ≡ f)))
phase_stays o t b (Freeze g) h f may e =
    inl (choice-other g h Frozen (phase h t) (λ z.
    open_not (sym may.was ∙ (ap (λ (y : ℕ). phase y t) z ∙ e))) ∙ e)
phase_stays o t b (Thaw g) h f may e =
    inl (choice-other g h Open (phase h t) (λ z.
    frozen_not (sym may.was ∙ (ap (λ (y : ℕ). phase y t) z ∙ e))) ∙ e)
phase_stays o t b (StoreOpened g i) h f may e =
    inl (choice-other g h (Opened i) (phase h t)
    (λ z. frozen_not (sym may.frozen ∙ (ap (λ (y : ℕ). phase y t) z ∙ e))) ∙ e)
phase_stays o t b (NewGroup g low high i) h f may e =
    dite (ℕ_discrete g h) (λ (z : g ≡ h). inr (g, low, high, i, refl, inl z))
    (λ (n : g ≢ h).
    dite (ℕ_discrete f g) (λ (z : f ≡ g). inr (g, low, high, i, refl, inr (sym z)))
    (λ (m : f ≢ g).
    inl (choice-other g h Open (name_used_again g (phase h t)) n
    ∙ (ap (name_used_again g) e ∙ choice-other f g Open (Opened f) m))))
phase_stays o t b d h f may e = inl e

-- what a redirect names stays in its old group
old_stays : (o : Opening) (t : Execution) (b : ℕ) (d : Action) (k a q y : ℕ) → Allowed o t b d →
    form o a t ≡ Redirect q y → IsOldPlace o t k q → IsOldPlace o (event b d ∷ t) k q
old_stays o t b d k a q y may point s = ⊎_elim
    (λ (z : role o q (event b d ∷ t) ≡ role o q t). ⊎_elim
    (λ (p : phase s.0 (event b d ∷ t) ≡ Opened s.1). (
      s.0,
      s.1,
      p,
      ⊎_elim (λ (w : role o q t ≡ InArray s.0 k). inl (z ∙ w))
          (λ (w : role o q t ≡ InBuffer s.0 k). inr (z ∙ w)) s.3,
    ))
    (λ (p : (g : ℕ) × (low : ℕ) × (high : ℕ) × (i : ℕ) × (d ≡ NewGroup g low high i)
    × ((g ≡ s.0) ⊎ (g ≡ s.1))).
    let m = may_as o t b d (NewGroup p.0 p.1 p.2 p.3) p.4 may in
    ⊎_elim
    (λ (x : p.0 ≡ s.0).
    ⊎_elim
    (λ (w : role o q t ≡ InArray s.0 k).
    absurd (m.no_target a q y k point (w ∙ ap (λ (i : ℕ). InArray i k) (sym x))))
    (λ (w : role o q t ≡ InBuffer s.0 k).
    absurd (m.no_row q k (w ∙ ap (λ (i : ℕ). InBuffer i k) (sym x)))) s.3)
    (λ (x : p.0 ≡ s.1).
    absurd (m.no_old_target a q y s.0 k point (s.2 ∙ ap (λ (i : ℕ). Opened i) (sym x)) s.3))
    p.5)
    (phase_stays o t b d s.0 s.1 may s.2))
    (λ (z : EndsRole o t q d). ⊎_elim
    (λ (w : (n : ℕ) × (d ≡ Retire q n)). absurd
    ((may_as o t b d (Retire q w.0) w.1 may).no_target a y point))
    (λ (w : (g : ℕ) × (low : ℕ) × (high : ℕ) × (f : ℕ) × (j : ℕ) × (d ≡ NewGroup g low high f) ×
    (role o q t ≡ InArray g j)). absurd ((may_as o t b d
    (NewGroup w.0 w.1 w.2 w.3) w.5 may).no_target a q y w.4 point w.6)) z)
    (role_stays o t b d q k may (old_keyed o t k q s))

redirects_step : (o : Opening) (t : Execution) (b : ℕ) (d : Action) → Allowed o t b d →
    RedirectsLeadToOld o t → RedirectsLeadToOld o (event b d ∷ t)
redirects_step o t b d may old a g k q y s e = ⊎_elim
    (λ (w : (z : ℕ) × (form o a t ≡ Redirect q z)). ⊎_elim
    (λ (v : role o a t ≡ InArray g k). old_stays o t b d k a q w.0 may w.1 (old a g k q w.0 v w.1))
    (λ (v : (to : ℕ) × (d ≡ StoreRedirect g a k to)). written g k v.0 v.1)
    (array_back o t b d a g k s))
    (λ (w : (h : ℕ) × (j : ℕ) × (d ≡ StoreRedirect h a j q)). ⊎_elim
    (λ (v : role o a t ≡ InArray g k). let bad : InArray g k ≡ Unused = sym v
    ∙ (may_as o t b d (StoreRedirect w.0 a w.1 q) w.2 may).unused in cc)
    (λ (v : (to : ℕ) × (d ≡ StoreRedirect g a k to)). written g k v.0 v.1)
    (array_back o t b d a g k s))
    (redirect_back o t b d a q y e)
  where
    written : (g k to : ℕ) → d ≡ StoreRedirect g a k to → IsOldPlace o (event b d ∷ t) k q
    written g k to z = let m = may_as o t b d (StoreRedirect g a k to) z may in
        let now : Redirect to 0 ≡ Redirect q y =
        sym (choice-same a a (Redirect to 0) (form o a t) refl)
        ∙ subst (λ (i : Action). form o a (event b i ∷ t) ≡ Redirect q y) z e in let same : to ≡ q =
        cc in
        let place : (role o q t ≡ InArray (group_of o k t) k) ⊎
        (role o q t ≡ InBuffer (group_of o k t) k) =
        subst (λ (i : ℕ). (role o i t ≡ InArray (group_of o k t) k) ⊎
        (role o i t ≡ InBuffer (group_of o k t) k)) same m.source in
        let keyed : role_key (role o q t) ≡ Some k =
        ⊎_elim (λ (z : role o q t ≡ InArray (group_of o k t) k). ap role_key z)
        (λ (z : role o q t ≡ InBuffer (group_of o k t) k). ap role_key z) place in
        subst (λ (i : Action). IsOldPlace o (event b i ∷ t) k q) (sym z)
        (group_of o k t, m.opened.0, m.opened.1, after place keyed)
      where
        after : (role o q t ≡ InArray (group_of o k t) k) ⊎
            (role o q t ≡ InBuffer (group_of o k t) k) → role_key (role o q t) ≡ Some k
            → (role o q (event b (StoreRedirect g a k to) ∷ t) ≡ InArray (group_of o k t) k) ⊎
            (role o q (event b (StoreRedirect g a k to) ∷ t) ≡ InBuffer (group_of o k t) k)
        after place keyed = let m = may_as o t b d (StoreRedirect g a k to) z may in
            let same : role o q (event b (StoreRedirect g a k to) ∷ t) ≡ role o q t =
            choice-other a q (InArray g k) (role o q t)
            (λ i. none_some (sym (ap role_key m.unused)
            ∙ (ap (λ (j : ℕ). role_key (role o j t)) i ∙ keyed))) in
            ⊎_elim (λ (z : role o q t ≡ InArray (group_of o k t) k). inl (same ∙ z))
            (λ (z : role o q t ≡ InBuffer (group_of o k t) k). inr (same ∙ z)) place

pub redirects_lead_to_old : (o : Opening) → RedirectsLeadToOld o [] → (t : Execution) → Valid o t →
    RedirectsLeadToOld o t
redirects_lead_to_old o start [] valid = start
redirects_lead_to_old o start (e ∷ t) valid =
    redirects_step o t e.by e.action valid.0 (redirects_lead_to_old o start t valid.1)

-- nobody may revive an old place
pub old_not_revivable : (o : Opening) (t : Execution) (k q : ℕ) → OpenedGroupsHold o t →
    IsOldPlace o t k q → IsNotRevivable o t q
old_not_revivable o t k q hold s g j c is z l = ⊎_elim
    (λ (w : role o q t ≡ InArray s.0 k). let bad : InArray s.0 k ≡ InBuffer g j = sym w ∙ z in cc)
    (λ (w : role o q t ≡ InBuffer s.0 k). let two : InBuffer s.0 k ≡ InBuffer g j = sym w ∙ z in
    let same : s.0 ≡ g = cc in hold.closed c g is l s.1
    (ap (λ (y : ℕ). phase y t) (sym same) ∙ s.2)) s.3

pub redirect_on : (o : Opening) (t : Execution) (b : ℕ) (d : Action) (a g k q y : ℕ) →
    Allowed o t b d → role o a t ≡ InArray g k → form o a t ≡ Redirect q y
    → ((z : ℕ) × (form o a (event b d ∷ t) ≡ Redirect q z)) ⊎
    ((p : ℕ) × (j : ℕ) × (r : Bool) × (u : ℕ) × (d ≡ StoreDirect a p j r u))
redirect_on o t b (LinkRow h lane p d prior next) a g k q y may s e =
    inl (
      y,
      choice-other p a (Unlocked (first_version o) false (put_value d)) (form o a t)
          (λ z. let bad : HeldBy b ≡ InArray g k = sym may.mine
          ∙ (ap (λ (i : ℕ). role o i t) z ∙ s) in
          cc) ∙ e,
    )
redirect_on o t b (StoreRedirect h p j to) a g k q y may s e =
    inl (
      y,
      choice-other p a (Redirect to 0) (form o a t)
          (λ z. let bad : Unused ≡ InArray g k = sym may.unused
          ∙ (ap (λ (i : ℕ). role o i t) z ∙ s) in
          cc) ∙ e,
    )
redirect_on o t b (Lock p expected) a g k q y may s e = inl (on (p == a) (ap (with_lock b) e) e)
  where
    on : (w : Bool) → with_lock b (form o a t) ≡ Redirect q y → form o a t ≡ Redirect q y →
        (z : ℕ) × (cond w (with_lock b (form o a t)) (form o a t) ≡ Redirect q z)
    on true f e = (y, f)
    on false f e = (y, e)
redirect_on o t b (Close p expected) a g k q y may s e = inl (on (p == a) (ap (with_lock b) e) e)
  where
    on : (w : Bool) → with_lock b (form o a t) ≡ Redirect q y → form o a t ≡ Redirect q y →
        (z : ℕ) × (cond w (with_lock b (form o a t)) (form o a t) ≡ Redirect q z)
    on true f e = (y, f)
    on false f e = (y, e)
redirect_on o t b (StoreValue p v) a g k q y may s e = inl (on (p == a) (ap (with_value v) e) e)
  where
    on : (w : Bool) → with_value v (form o a t) ≡ Redirect q v → form o a t ≡ Redirect q y →
        (z : ℕ) × (cond w (with_value v (form o a t)) (form o a t) ≡ Redirect q z)
    on true f e = (v, f)
    on false f e = (y, e)
redirect_on o t b (Copy p v) a g k q y may s e = inl (on (p == a) (ap (with_value v) e) e)
  where
    on : (w : Bool) → with_value v (form o a t) ≡ Redirect q v → form o a t ≡ Redirect q y →
        (z : ℕ) × (cond w (with_value v (form o a t)) (form o a t) ≡ Redirect q z)
    on true f e = (v, f)
    on false f e = (y, e)
redirect_on o t b (Unlock p r c raised) a g k q y may s e =
    inl (on (p == a) (ap (without_lock r) e) e)
  where
    on : (w : Bool) → without_lock r (form o a t) ≡ Redirect q y → form o a t ≡ Redirect q y →
        (z : ℕ) × (cond w (without_lock r (form o a t)) (form o a t) ≡ Redirect q z)
    on true f e = (y, f)
    on false f e = (y, e)
redirect_on o t b (StoreMoved p) a g k q y may s e =
    inl (
      y,
      choice-other p a Moved (form o a t)
          (λ z. let bad : Copied may.version may.removed may.value ≡ Redirect q y = sym may.copied
          ∙ (ap (λ (i : ℕ). form o i t) z ∙ e) in cc) ∙ e,
    )
redirect_on o t b (StoreDirect p from j r raised) a g k q y may s e =
    dite (ℕ_discrete p a) (λ (z : p ≡ a). inr
    (from, j, r, raised, ap (λ (i : ℕ). StoreDirect i from j r raised) z))
    (λ (n : p ≢ a). inl (
      y,
      choice-other p a (made_direct (first_version o) r (form o a t))
          (cond (from == a) (copied_away (form o a t)) (form o a t)) n
          ∙ (choice-other from a (copied_away (form o a t)) (form o a t)
          (λ z. let bad : Locked b may.version r may.value may.value ≡ Redirect q y = sym may.holds
          ∙ (ap (λ (i : ℕ). form o i t) z ∙ e) in cc) ∙ e),
    ))
redirect_on o t b d a g k q y may s e = inl (y, e)

pub no_value_step : (o : Opening) (t : Execution) (b : ℕ) (d : Action) (a g k : ℕ) →
    Allowed o t b d → OpenedGroupsHold o t → RedirectsLeadToOld o t → role o a t ≡ InArray g k →
    HasNoValue o t a → HasNoValue o (event b d ∷ t) a
no_value_step o t b d a g k may quiet forwards s c = ⊎_elim
    (λ (z : is_removed (form o a t) ≡ true). inl
    (removed_step o t b d a k may (ap role_key s)
    (λ h j i _ w _. let bad : InArray g k ≡ InBuffer h j = sym s ∙ w in cc) z))
    (λ (z : (q : ℕ) × (y : ℕ) × (form o a t ≡ Redirect q y) × (is_removed (form o q t) ≡ true)).
    let q : ℕ = z.0 in let old : IsOldPlace o t k q = forwards a g k q z.1 s z.2 in ⊎_elim
    (λ (w : (y : ℕ) × (form o a (event b d ∷ t) ≡ Redirect q y)).
    inr (
      q,
      w.0,
      w.1,
      removed_step o t b d q k may (old_keyed o t k q old)
          (old_not_revivable o t k q quiet old) z.3,
    ))
    (λ (w : (p : ℕ) × (j : ℕ) × (r : Bool) × (u : ℕ) × (d ≡ StoreDirect a p j r u)).
    inl (copied_removed q z.1 z.2 z.3 w.0 w.1 w.2 w.3 w.4))
    (redirect_on o t b d a g k q z.1 may s z.2)) c
  where
    copied_removed : (q y : ℕ) → form o a t ≡ Redirect q y → is_removed (form o q t) ≡ true →
        (p j : ℕ) (r : Bool) (raised : ℕ) → d ≡ StoreDirect a p j r raised →
        is_removed (form o a (event b d ∷ t)) ≡ true
    copied_removed q y e gone p j r raised is = let m =
        may_as o t b d (StoreDirect a p j r raised) is may in
        let two : Redirect q y ≡ Redirect p m.value = sym e ∙ m.forwards in let same : q ≡ p = cc in
        let removed : r ≡ true = sym (ap is_removed m.holds)
        ∙ subst (λ (i : ℕ). is_removed (form o i t) ≡ true) same gone in
        subst (λ (i : Action). is_removed (form o a (event b i ∷ t)) ≡ true) (sym is)
        (ap is_removed (choice-same a a (made_direct (first_version o) r (form o a t))
        (cond (p == a) (copied_away (form o a t)) (form o a t)) refl
        ∙ ap (made_direct (first_version o) r) m.forwards) ∙ removed)
