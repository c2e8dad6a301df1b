-- The live place of a key stands in the group of the chain that answers for the key: in its array,
-- behind a redirect there, in its buffer, or, while the group is opened, in the buffer of the new
-- group.
use Rattle.std.proofs.Common.{◌≡◌, ◌≢◌, ℕ, ◌⊎◌, inl, inr, ⊎_elim, Option, Some, None, Bool, true}
use Rattle.std.proofs.Common.{false, [], ◌∷◌, cond, refl, sym, ap, ◌∙◌, subst}
use Rattle.std.specs.Prelude.{◌==◌}
use mathlib.Core.Logic.{dite}
use native.Mathlib.Decide.{ℕ_discrete}
use Rattle.index_machine.proofs.Executions.{choice-other, choice-same}
use Rattle.index_machine.specs.Conditions.{Allowed, Valid}
use Rattle.index_machine.specs.Execution.{Execution, event}
use Rattle.index_machine.specs.Forms.{Copied, Form, Locked, Moved, Redirect, Unlocked, copied_away}
use Rattle.index_machine.specs.Forms.{live_value, made_direct, put_value, unless, with_lock}
use Rattle.index_machine.specs.Forms.{with_value, without_lock}
use Rattle.index_machine.specs.Groups.{phase}
use Rattle.index_machine.specs.KeyRanges.{group_of, or_else, successor}
use Rattle.index_machine.specs.LivePlaces.{IsPlaceOf, live_place}
use Rattle.index_machine.specs.Openings.{within}
use Rattle.index_machine.specs.Permissions.{IsBufferFor}
use Rattle.index_machine.specs.Places.{first_version, form}
use Rattle.index_machine.specs.RebuildConditions.{MayBegin, MayDirect, MayInstall}
use Rattle.index_machine.specs.RecordConditions.{MayLink, MayUnlock}
use Rattle.index_machine.specs.Rows.{HeldBy, InArray, InBuffer, Role, Unused, role, role_key}
use Rattle.index_machine.specs.declared.events.Action.{Action}
use Rattle.index_machine.specs.declared.events.Action.TheVariants.{Close, Copy, Freeze, Install}
use Rattle.index_machine.specs.declared.events.Action.TheVariants.{LinkRow, Lock, NewGroup, PopFree}
use Rattle.index_machine.specs.declared.events.Action.TheVariants.{PushFree, Retire, StoreDirect}
use Rattle.index_machine.specs.declared.events.Action.TheVariants.{StoreMoved, StoreOpened}
use Rattle.index_machine.specs.declared.events.Action.TheVariants.{StoreRedirect, StoreValue, Thaw}
use Rattle.index_machine.specs.declared.events.Action.TheVariants.{Unlock}
use Rattle.index_machine.specs.declared.events.InstallWord.{InstallWord}
use Rattle.index_machine.specs.declared.opening.Opening.{Opening}
use Rattle.machine_places.proofs.Agreement.{emptied_keeps, map_agrees}
use Rattle.index_machine.proofs.OfParts.{opened_elsewhere, successor_of_part, stays_opened, stays_successor}
use Rattle.index_machine.proofs.Options.{none_some, some_is}
use Rattle.machine_places.proofs.LiveValues.{only_live}
use Rattle.machine_places.specs.Agreement.{HasLiveValue, LivePlacesStand, MapAgrees, OnlyLive}
use Rattle.map_model.specs.Map.{key_of}
use Rattle.map_model.specs.declared.entries.Change.{Change}
use Rattle.word_layout.specs.declared.phase.Phase.{Phase}
use Rattle.word_layout.specs.declared.phase.Phase.TheVariants.{Frozen, Open, Opened}

pub live_place-keyed : (o : Opening) (t : Execution) → MapAgrees o t → (k p : ℕ) →
    live_place o k t ≡ Some p → role_key (role o p t) ≡ Some k
live_place-keyed o t a k p e = go (live_place o k t) e (a k)
  where
    go : (h : Option ℕ) → h ≡ Some p → HasLiveValue o t k h → role_key (role o p t) ≡ Some k
    go None e h = none_some e
    go (Some q) e h = subst (λ (y : ℕ). role_key (role o y t) ≡ Some k) (some_is e) h.3

pub live_place-lives : (o : Opening) (t : Execution) → MapAgrees o t → (k p : ℕ) →
    live_place o k t ≡ Some p → (x : ℕ) × (live_value (form o p t) ≡ Some x)
live_place-lives o t a k p e = go (live_place o k t) e (a k)
  where
    go : (h : Option ℕ) → h ≡ Some p → HasLiveValue o t k h →
        (x : ℕ) × (live_value (form o p t) ≡ Some x)
    go None e h = none_some e
    go (Some q) e h = (h.0, ap (λ (y : ℕ). live_value (form o y t)) (sym (some_is e)) ∙ h.1)

abbrev RolesKept : Opening → Execution → ℕ → Action → ℕ → Type 0
RolesKept o t b d k = (q : ℕ) → (live_place o k t ≡ Some q) ⊎
    (role o q t ≡ InArray (group_of o k t) k) → role_key (role o q t) ≡ Some k →
    role o q (event b d ∷ t) ≡ role o q t

abbrev RedirectsKept : Opening → Execution → ℕ → Action → ℕ → Type 0
RedirectsKept o t b d k = (a p y : ℕ) → role o a t ≡ InArray (group_of o k t) k →
    form o a t ≡ Redirect p y → live_place o k t ≡ Some p →
    (z : ℕ) × (form o a (event b d ∷ t) ≡ Redirect p z)

abbrev BuffersKept : Opening → Execution → ℕ → Action → ℕ → Type 0
BuffersKept o t b d k = (g : ℕ) → IsBufferFor o k g t → IsBufferFor o k g (event b d ∷ t)

-- an action that moves neither the key's live place nor its group
carry : (o : Opening) (t : Execution) (b : ℕ) (d : Action) (k p : ℕ) → MapAgrees o t →
    group_of o k (event b d ∷ t) ≡ group_of o k t → RolesKept o t b d k → RedirectsKept o t b d k →
    BuffersKept o t b d k
    → live_place o k t ≡ Some p → IsPlaceOf o t k p → IsPlaceOf o (event b d ∷ t) k p
carry o t b d k p a same roles redirects serves e old =
    ⊎_elim (λ (h : role o p t ≡ InArray (group_of o k t) k).
    inl (roles p (inl e) (live_place-keyed o t a k p e)
    ∙ (h ∙ ap (λ (y : ℕ). InArray y k) (sym same))))
    (λ (h : ((a : ℕ) × (y : ℕ) × (role o a t ≡ InArray (group_of o k t) k) ×
    (form o a t ≡ Redirect p y)) ⊎ ((g : ℕ) × (role o p t ≡ InBuffer g k) × IsBufferFor o k g t)).
    ⊎_elim
    (λ (i : (a : ℕ) × (y : ℕ) × (role o a t ≡ InArray (group_of o k t) k) ×
    (form o a t ≡ Redirect p y)). let z = redirects i.0 p i.1 i.2 i.3 e in
    inr (inl (
      i.0,
      z.0,
      roles i.0 (inr i.2) (ap role_key i.2)
          ∙ (i.2 ∙ ap (λ (y : ℕ). InArray y k) (sym same)),
      z.1,
    )))
    (λ (i : (g : ℕ) × (role o p t ≡ InBuffer g k) × IsBufferFor o k g t).
    inr (inr (i.0, roles p (inl e) (live_place-keyed o t a k p e) ∙ i.1, serves i.0 i.2))) h) old

all_roles : (o : Opening) (t : Execution) (b : ℕ) (d : Action) (k : ℕ) →
    ((q : ℕ) → role o q (event b d ∷ t) ≡ role o q t) → RolesKept o t b d k
all_roles o t b d k e q _ _ = e q

-- a role that is set from one without a key
role_set : (o : Opening) (t : Execution) (p q k : ℕ) (u s : Role) → role o p t ≡ s →
    role_key s ≡ None → role_key (role o q t) ≡ Some k → cond (p == q) u (role o q t) ≡ role o q t
role_set o t p q k u s e none keyed = choice-other p q u (role o q t)
    (λ z. none_some (sym none ∙ (ap role_key (sym e)
    ∙ (ap (λ (y : ℕ). role_key (role o y t)) z ∙ keyed))))

redirect_if : (b : Bool) (p y : ℕ) (f g : Form) → g ≡ Redirect p y →
    ((z : ℕ) × (f ≡ Redirect p z)) →
    (z : ℕ) × (cond b f g ≡ Redirect p z)
redirect_if true p y f g e h = h
redirect_if false p y f g e h = (y, e)

-- phases: no opened one is map_after
opened_if : (g h : ℕ) (x y z : Phase) (f : ℕ) → (g ≡ h → y ≡ Opened f → ⊥) → y ≡ Opened f →
    cond (g == h) x y ≡ Opened f
opened_if g h x y z f never e = choice-other g h x y (λ w. never w e) ∙ e

buffer_for_phase : (o : Opening) (t : Execution) (b : ℕ) (d : Action) (k : ℕ) →
    group_of o k (event b d ∷ t) ≡ group_of o k t → successor k (event b d ∷ t) ≡ successor k t
    → ((f : ℕ) → phase (group_of o k t) t ≡ Opened f →
    phase (group_of o k t) (event b d ∷ t) ≡ Opened f) → BuffersKept o t b d k
buffer_for_phase o t b d k same successors phases g s =
    ⊎_elim (λ (e : group_of o k t ≡ g). inl (same ∙ e))
    (λ (h : (f : ℕ) × (phase (group_of o k t) t ≡ Opened f) × (successor k t ≡ Some g)).
    inr (h.0, ap (λ (y : ℕ). phase y (event b d ∷ t)) same ∙ phases h.0 h.1, successors ∙ h.2)) s

buffer_for_all : (o : Opening) (t : Execution) (b : ℕ) (d : Action) (k : ℕ) →
    group_of o k (event b d ∷ t) ≡ group_of o k t → successor k (event b d ∷ t) ≡ successor k t →
    ((g : ℕ) → phase g (event b d ∷ t) ≡ phase g t) → BuffersKept o t b d k
buffer_for_all o t b d k same successors phases = buffer_for_phase o t b d k same successors
    (λ f e. phases (group_of o k t) ∙ e)

not_opened : {X : Type 0} {f : ℕ} → Open ≡ Opened f → X
not_opened e = cc

not_opened2 : {X : Type 0} {f : ℕ} → Frozen ≡ Opened f → X
not_opened2 e = cc

module _ (o : Opening) (t : Execution) (b : ℕ) (a : MapAgrees o t) (old : LivePlacesStand o t) where
  -- steps that touch forms alone
  forms : (d : Action) → ((k : ℕ) → live_place o k (event b d ∷ t) ≡ live_place o k t) →
      ((q : ℕ) → role o q (event b d ∷ t) ≡ role o q t) →
      ((k : ℕ) → group_of o k (event b d ∷ t) ≡ group_of o k t)
      → ((k : ℕ) → successor k (event b d ∷ t) ≡ successor k t) →
      ((g : ℕ) → phase g (event b d ∷ t) ≡ phase g t)
      → ((q p y k : ℕ) → role o q t ≡ InArray (group_of o k t) k → form o q t ≡ Redirect p y →
      (z : ℕ) × (form o q (event b d ∷ t) ≡ Redirect p z)) → LivePlacesStand o (event b d ∷ t)
  forms d live roles groups successors phases redirects k p e = let e' : live_place o k t ≡ Some p =
      sym (live k) ∙ e in
      carry o t b d k p a (groups k) (all_roles o t b d k roles)
      (λ q p y s f _. redirects q p y k s f) (buffer_for_all o t b d k (groups k)
      (successors k) phases) e'
      (old k p e')

  -- steps that touch phases alone
  phased : (d : Action) → ((k : ℕ) → live_place o k (event b d ∷ t) ≡ live_place o k t) →
      ((q : ℕ) → role o q (event b d ∷ t) ≡ role o q t) →
      ((k : ℕ) → group_of o k (event b d ∷ t) ≡ group_of o k t)
      → ((k : ℕ) → successor k (event b d ∷ t) ≡ successor k t) →
      ((q : ℕ) → form o q (event b d ∷ t) ≡ form o q t)
      → ((g f : ℕ) → phase g t ≡ Opened f → phase g (event b d ∷ t) ≡ Opened f) →
      LivePlacesStand o (event b d ∷ t)
  phased d live roles groups successors same phases k p e = let e' : live_place o k t ≡ Some p =
      sym (live k) ∙ e in
      carry o t b d k p a (groups k) (all_roles o t b d k roles) (λ q p y s f _. (y, same q ∙ f))
      (buffer_for_phase o t b d k (groups k) (successors k) (phases (group_of o k t))) e'
      (old k p e')

  -- steps that touch roles alone
  placed : (d : Action) → ((k : ℕ) → live_place o k (event b d ∷ t) ≡ live_place o k t) →
      ((k : ℕ) → group_of o k (event b d ∷ t) ≡ group_of o k t)
      → ((k : ℕ) → successor k (event b d ∷ t) ≡ successor k t) →
      ((g : ℕ) → phase g (event b d ∷ t) ≡ phase g t) → ((k : ℕ) → RedirectsKept o t b d k) →
      ((k : ℕ) → RolesKept o t b d k) → LivePlacesStand o (event b d ∷ t)
  placed d live groups successors phases redirects roles k p e =
      let e' : live_place o k t ≡ Some p =
      sym (live k) ∙ e in
      carry o t b d k p a (groups k) (roles k) (redirects k)
      (buffer_for_all o t b d k (groups k) (successors k) phases) e' (old k p e')

  installed : (spot : InstallWord) (lead low high : ℕ) → MayInstall o t b spot lead low high →
      LivePlacesStand o (event b (Install spot lead low high) ∷ t)
  installed spot lead low high may k p e = go (within low k high) refl
    where
      T : Execution
      T = event b (Install spot lead low high) ∷ t

      go : (w : Bool) → within low k high ≡ w → IsPlaceOf o T k p
      go false out = let same : group_of o k T ≡ group_of o k t =
          ap (λ (z : Bool). cond z (or_else (successor k t) (group_of o k t))
          (group_of o k t)) out in
          carry o t b (Install spot lead low high) k p a same (λ q _ _. refl)
          (λ q p y s f _. (y, f)) (buffer_for_phase o t b (Install spot lead low high) k same refl
          (λ f z. z)) e (old k p e)
      go true is = let m = may.opened k is in let h : ℕ = m.1 in
          let same : group_of o k T ≡ h = ap (λ (z : Bool).
          cond z (or_else (successor k t) (group_of o k t)) (group_of o k t)) is
          ∙ ap (λ (z : Option ℕ). or_else z (group_of o k t)) m.3 in
          ⊎_elim (λ (z : role o p t ≡ InBuffer h k). inr (inr (h, z, inl same)))
          (λ (z : (a : ℕ) × (y : ℕ) × (role o a t ≡ InArray h k) × (form o a t ≡ Redirect p y)).
          inr (inl (z.0, z.1, z.2 ∙ ap (λ (y : ℕ). InArray y k) (sym same), z.3)))
          (may.merged k h p is m.3 e)

  linked : (g lane p : ℕ) (d : Change) (prior next : ℕ) → MayLink o t b g lane p d prior next →
      LivePlacesStand o (event b (LinkRow g lane p d prior next) ∷ t)
  linked g lane p d prior next may k q e = dite (ℕ_discrete (key_of d) k)
      (λ (z : key_of d ≡ k). let same : p ≡ q =
      some_is (sym (choice-same (key_of d) k (Some p) (live_place o k t) z) ∙ e) in
      subst (λ (y : ℕ). IsPlaceOf o T k y) same
      (inr (inr (
        g,
        choice-same p p (InBuffer g (key_of d)) (role o p t) refl
            ∙ ap (λ (y : ℕ). InBuffer g y) z,
        subst (λ (y : ℕ). IsBufferFor o y g t) z may.belongs,
      ))))
      (λ (n : key_of d ≢ k). let e' : live_place o k t ≡ Some q =
      sym (choice-other (key_of d) k (Some p) (live_place o k t) n) ∙ e in
      carry o t b (LinkRow g lane p d prior next) k q a refl
      (λ r _ keyed. role_set o t p r k (InBuffer g (key_of d)) (HeldBy b) may.mine refl keyed)
      (λ r s y h f _. (
        y,
        choice-other p r (Unlocked (first_version o) false (put_value d))
            (form o r t) (λ i. let two : HeldBy b ≡ InArray (group_of o k t) k = sym may.mine
            ∙ (ap (λ (j : ℕ). role o j t) i ∙ h) in cc) ∙ f,
      ))
      (λ g s. s) e' (old k q e'))
    where
      T : Execution
      T = event b (LinkRow g lane p d prior next) ∷ t

  unlock : (one : OnlyLive o t) (p : ℕ) (r : Bool) (d : Change) (raised : ℕ) →
      MayUnlock o t b p r d → LivePlacesStand o (event b (Unlock p r d raised) ∷ t)
  unlock one p r d raised may k q e = dite (ℕ_discrete (key_of d) k)
      (λ (z : key_of d ≡ k). here z r refl (sym
      (choice-same (key_of d) k (cond r None (Some p)) (live_place o k t) z) ∙ e))
      (λ (n : key_of d ≢ k). let e' : live_place o k t ≡ Some q =
      sym (choice-other (key_of d) k (cond r None (Some p)) (live_place o k t) n) ∙ e in on q e')
    where
      T : Execution
      T = event b (Unlock p r d raised) ∷ t

      on : (q : ℕ) → live_place o k t ≡ Some q → IsPlaceOf o T k q
      on q e' = carry o t b (Unlock p r d raised) k q a refl (λ r _ keyed. refl)
          (λ i s y _ f _. redirect_if (p == i) s y (without_lock r (form o i t)) (form o i t) f
          (y, ap (without_lock r) f)) (λ g s. s) e' (old k q e')

      was_live : key_of d ≡ k → p ≡ q → (w : Bool) → may.was ≡ w → IsPlaceOf o T k q
      was_live z s true f = let v = may.revives f in
          subst (λ (y : ℕ). IsPlaceOf o T k y) s
          (inr (inr (
            v.0,
            v.1 ∙ ap (λ (y : ℕ). InBuffer v.0 y) z,
            subst
                (λ (y : ℕ). IsBufferFor o y v.0 t) z v.3,
          )))
      was_live z s false f = on q (ap (λ (y : ℕ). live_place o y t) (sym z)
          ∙ (one p (key_of d) may.before may.keyed
          (ap live_value may.holds ∙ ap (λ (y : Bool). unless y may.before) f) ∙ ap Some s))

      here : key_of d ≡ k → (w : Bool) → r ≡ w → cond w None (Some p) ≡ Some q → IsPlaceOf o T k q
      here z true f e = none_some e
      here z false f e = was_live z (some_is e) may.was refl

  directed : (c p j : ℕ) (r : Bool) (raised : ℕ) → MayDirect o t b c p j r raised →
      LivePlacesStand o (event b (StoreDirect c p j r raised) ∷ t)
  directed c p j r raised may k q e = dite (ℕ_discrete j k)
      (λ (z : j ≡ k). here z r refl (sym (choice-same j k (cond r (live_place o k t) (Some c))
      (live_place o k t) z) ∙ e))
      (λ (n : j ≢ k). let e' : live_place o k t ≡ Some q =
      sym (choice-other j k (cond r (live_place o k t) (Some c)) (live_place o k t) n) ∙ e in
      on q e' (λ z. n (some_is (sym may.there
      ∙ (ap (λ (y : ℕ). role_key (role o y t)) z ∙ live_place-keyed o t a k q e')))))
    where
      T : Execution
      T = event b (StoreDirect c p j r raised) ∷ t

      on : (q : ℕ) → live_place o k t ≡ Some q → (p ≢ q) → IsPlaceOf o T k q
      on q e' n = carry o t b (StoreDirect c p j r raised) k q a refl (λ r _ keyed. refl)
          (λ i s y _ f h. dite (ℕ_discrete c i)
          (λ (z : c ≡ i). let two : Redirect p may.value ≡ Redirect s y = sym may.forwards
          ∙ (ap (λ (w : ℕ). form o w t) z ∙ f) in let same : p ≡ s = cc in
          absurd (n (same ∙ some_is (sym h ∙ e'))))
          (λ (m : c ≢ i). (
            y,
            choice-other c i (made_direct (first_version o) r (form o i t))
                (cond (p == i) (copied_away (form o i t)) (form o i t)) m ∙ kept i s y f,
          )))
          (λ g s. s) e' (old k q e')
        where
          kept : (i s y : ℕ) → form o i t ≡ Redirect s y →
              cond (p == i) (copied_away (form o i t)) (form o i t) ≡ Redirect s y
          kept i s y f = choice-other p i (copied_away (form o i t)) (form o i t)
              (λ z. let bad : Locked b may.version r may.value may.value ≡ Redirect s y =
              sym may.holds ∙ (ap (λ (w : ℕ). form o w t) z ∙ f) in cc) ∙ f

      here : j ≡ k → (w : Bool) → r ≡ w → cond w (live_place o k t) (Some c) ≡ Some q →
          IsPlaceOf o T k q
      here z true f e = let l = live_place-lives o t a k q e in
          on q e (λ s. none_some (sym (ap live_value may.holds
          ∙ ap (λ (y : Bool). unless y may.value) f)
          ∙ (ap (λ (y : ℕ). live_value (form o y t)) s ∙ l.1)))
      here z false f e = subst (λ (y : ℕ). IsPlaceOf o T k y) (some_is e)
          (inl (may.here ∙ (ap (λ (y : ℕ). InArray (group_of o y t) y) z)))

  begun : (g low high f : ℕ) → Valid o t → MayBegin o t b g low high f →
      LivePlacesStand o (event b (NewGroup g low high f) ∷ t)
  begun g low high f valid may k p e = carry o t b (NewGroup g low high f) k p a refl
      (λ q s keyed. emptied_keeps g (role o q t)
      (λ j z. ⊎_elim (λ (h : live_place o k t ≡ Some q). may.not_live k q j h z)
      (λ (h : role o q t ≡ InArray (group_of o k t) k).
      let two : InArray (group_of o k t) k ≡ InArray g j = sym h ∙ z in
      let same : group_of o k t ≡ g = cc in may.gone.unowned k same) s))
      (λ q p y s f _. (y, f))
      (λ h s. ⊎_elim (λ (z : group_of o k t ≡ h). inl z)
      (λ (z : (e : ℕ) × (phase (group_of o k t) t ≡ Opened e) × (successor k t ≡ Some h)).
      let apart = opened_elsewhere o t b g low high f valid may k z.0 z.1 in
      let same = successor_of_part o t k h valid z.2 in
      inr (
        z.0,
        stays_opened o t b g low high f (group_of o k t) z.0 valid apart z.1,
        stays_successor o t b g low high f k h valid may (λ w. apart (sym same ∙ w)) z.2,
      )) s)
      e (old k p e)

  live_places_stand_step : Valid o t → (one : OnlyLive o t) (d : Action) → Allowed o t b d →
      LivePlacesStand o (event b d ∷ t)
  live_places_stand_step valid one (Install spot lead low high) may = installed spot lead low high may
  live_places_stand_step valid one (LinkRow g lane p d prior next) may =
      linked g lane p d prior next may
  live_places_stand_step valid one (Unlock p r d raised) may = unlock one p r d raised may.1
  live_places_stand_step valid one (StoreDirect c p j r raised) may = directed c p j r raised may
  live_places_stand_step valid one (NewGroup g low high f) may = begun g low high f valid may
  live_places_stand_step valid one (PopFree p next) may =
      placed (PopFree p next) (λ k. refl) (λ k. refl) (λ k. refl) (λ k. refl)
      (λ k q p y s f _. (y, f)) (λ k q _ keyed.
      role_set o t p q k (HeldBy b) Unused may.2.unused refl keyed)
  live_places_stand_step valid one (PushFree p head) may =
      placed (PushFree p head) (λ k. refl) (λ k. refl) (λ k. refl) (λ k. refl)
      (λ k q p y s f _. (y, f)) (λ k q _ keyed.
      role_set o t p q k Unused (HeldBy b) may.held refl keyed)
  live_places_stand_step valid one (Retire p next) may =
      placed (Retire p next) (λ k. refl) (λ k. refl) (λ k. refl) (λ k. refl)
      (λ k q p y s f _. (y, f))
      (λ k q s keyed. choice-other p q (HeldBy b) (role o q t)
      (λ z. ⊎_elim (λ (h : live_place o k t ≡ Some q). may.not_live k (h ∙ ap Some (sym z)))
      (λ (h : role o q t ≡ InArray (group_of o k t) k). let w = may.where_it_is in
      let two : InBuffer w.0 w.1 ≡ InArray (group_of o k t) k = sym w.2
      ∙ (ap (λ (y : ℕ). role o y t) z ∙ h) in cc) s))
  live_places_stand_step valid one (StoreRedirect g c j p) may =
      placed (StoreRedirect g c j p) (λ k. refl) (λ k. refl) (λ k. refl) (λ k. refl)
      (λ k q s y h f _. (
        y,
        choice-other c q (Redirect p 0) (form o q t)
            (λ z. let two : Unused ≡ InArray (group_of o k t) k = sym may.unused
            ∙ (ap (λ (i : ℕ). role o i t) z ∙ h) in cc) ∙ f,
      ))
      (λ k q _ keyed. role_set o t c q k (InArray g j) Unused may.unused refl keyed)
  live_places_stand_step valid one (Lock p expected) may =
      forms (Lock p expected) (λ k. refl) (λ k. refl) (λ k. refl) (λ k. refl) (λ k. refl)
      (λ q s y k h f. redirect_if (p == q) s y (with_lock b (form o q t)) (form o q t) f
      (y, ap (with_lock b) f))
  live_places_stand_step valid one (Close p expected) may =
      forms (Close p expected) (λ k. refl) (λ k. refl) (λ k. refl) (λ k. refl) (λ k. refl)
      (λ q s y k h f. redirect_if (p == q) s y (with_lock b (form o q t)) (form o q t) f
      (y, ap (with_lock b) f))
  live_places_stand_step valid one (StoreValue p x) may =
      forms (StoreValue p x) (λ k. refl) (λ k. refl) (λ k. refl) (λ k. refl) (λ k. refl)
      (λ q s y k h f. redirect_if (p == q) s y (with_value x (form o q t)) (form o q t) f
      (x, ap (with_value x) f))
  live_places_stand_step valid one (Copy p x) may =
      forms (Copy p x) (λ k. refl) (λ k. refl) (λ k. refl) (λ k. refl) (λ k. refl)
      (λ q s y k h f. redirect_if (p == q) s y (with_value x (form o q t)) (form o q t) f
      (x, ap (with_value x) f))
  live_places_stand_step valid one (StoreMoved p) may =
      forms (StoreMoved p) (λ k. refl) (λ k. refl) (λ k. refl) (λ k. refl) (λ k. refl)
      (λ q s y k h f. (
        y,
        choice-other p q Moved (form o q t)
            (λ z. let two : Copied may.version may.removed may.value ≡ Redirect s y = sym may.copied
            ∙ (ap (λ (i : ℕ). form o i t) z ∙ f) in cc) ∙ f,
      ))
  live_places_stand_step valid one (Freeze g) may =
      phased (Freeze g) (λ k. refl) (λ k. refl) (λ k. refl) (λ k. refl) (λ k. refl)
      (λ h f e. opened_if g h Frozen (phase h t) Open f
      (λ z w. not_opened (sym may.was ∙ (ap (λ (i : ℕ). phase i t) z ∙ w))) e)
  live_places_stand_step valid one (Thaw g) may = phased (Thaw g) (λ k. refl) (λ k. refl) (λ k. refl)
      (λ k. refl) (λ k. refl)
      (λ h f e. opened_if g h Open (phase h t) Open f
      (λ z w. not_opened2 (sym may.was ∙ (ap (λ (i : ℕ). phase i t) z ∙ w))) e)
  live_places_stand_step valid one (StoreOpened g i) may =
      phased (StoreOpened g i) (λ k. refl) (λ k. refl) (λ k. refl) (λ k. refl) (λ k. refl)
      (λ h f e. opened_if g h (Opened i) (phase h t) Open f
      (λ z w. not_opened2 (sym may.frozen ∙ (ap (λ (i : ℕ). phase i t) z ∙ w))) e)
  live_places_stand_step valid one d may = old

pub live_places_stand : (o : Opening) → OnlyLive o [] → MapAgrees o [] → LivePlacesStand o [] →
    (t : Execution) → Valid o t → LivePlacesStand o t
live_places_stand o one start first [] valid = first
live_places_stand o one start first (e ∷ t) valid =
    live_places_stand_step o t e.by (map_agrees o one start t valid.1)
    (live_places_stand o one start first t valid.1) valid.1 (only_live o one t valid.1) e.action valid.0
