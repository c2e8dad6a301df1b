-- The map that the history leaves has at each key the value at its live place, or none where there
-- is none.
use Rattle.std.proofs.Common.{◌≡◌, ◌≢◌, ℕ, Option, Some, None, Bool, true, false, [], ◌∷◌, cond}
use Rattle.std.proofs.Common.{refl, sym, ap, ◌∙◌, subst}
use Rattle.std.specs.Prelude.{◌==◌}
use mathlib.Core.Logic.{dite}
use native.Mathlib.Decide.{ℕ_discrete}
use Rattle.index_machine.proofs.Executions.{choice-other, choice-same}
use Rattle.index_machine.specs.Conditions.{Allowed, Valid}
use Rattle.index_machine.specs.Execution.{Execution, event}
use Rattle.index_machine.specs.Forms.{Form, Locked, Moved, Redirect, Unlocked, copied_away}
use Rattle.index_machine.specs.Forms.{live_value, made_direct, put_value, unless, with_lock}
use Rattle.index_machine.specs.Forms.{with_value, without_lock}
use Rattle.index_machine.specs.LivePlaces.{history, live_place, value_in_map}
use Rattle.index_machine.specs.Openings.{opening_map}
use Rattle.index_machine.specs.Places.{first_version, form}
use Rattle.index_machine.specs.RebuildConditions.{MayDirect}
use Rattle.index_machine.specs.RecordConditions.{IsChangeTo, MayLink, MayUnlock}
use Rattle.index_machine.specs.Rows.{HeldBy, InArray, InBuffer, Role, Unused, emptied, role}
use Rattle.index_machine.specs.Rows.{role_key}
use Rattle.index_machine.specs.declared.events.Action.{Action}
use Rattle.index_machine.specs.declared.events.Action.TheVariants.{Close, Copy, LinkRow, Lock}
use Rattle.index_machine.specs.declared.events.Action.TheVariants.{NewGroup, PopFree, PushFree}
use Rattle.index_machine.specs.declared.events.Action.TheVariants.{Retire, StoreDirect, StoreMoved}
use Rattle.index_machine.specs.declared.events.Action.TheVariants.{StoreRedirect, StoreValue}
use Rattle.index_machine.specs.declared.events.Action.TheVariants.{Unlock}
use Rattle.index_machine.specs.declared.opening.Opening.{Opening}
use Rattle.machine_places.proofs.Forms.{live_value-with_lock, live_value-with_value, live_value_if}
use Rattle.index_machine.proofs.Options.{none_some, not_so, some_is}
use Rattle.machine_places.proofs.LiveValues.{only_live}
use Rattle.machine_places.specs.Agreement.{HasLiveValue, MapAgrees, OnlyLive}
use Rattle.map_model.proofs.Histories.{look-else, look-here}
use Rattle.map_model.specs.History.{after, left_by}
use Rattle.map_model.specs.Map.{key_of, look, map_after}
use Rattle.map_model.specs.declared.entries.Change.{Change}
use Rattle.map_model.specs.declared.entries.Change.TheVariants as change

-- an action that moves no live place and makes no change
keep : (o : Opening) (t : Execution) (b : ℕ) (d : Action) (k : ℕ) (h : Option ℕ) →
    value_in_map o k (event b d ∷ t) ≡ value_in_map o k t
    → ((p x : ℕ) → h ≡ Some p → live_value (form o p t) ≡ Some x → role_key (role o p t) ≡ Some k →
    (live_value (form o p (event b d ∷ t)) ≡ Some x) ×
    (role_key (role o p (event b d ∷ t)) ≡ Some k))
    → HasLiveValue o t k h → HasLiveValue o (event b d ∷ t) k h
keep o t b d k None same stays old = same ∙ old
keep o t b d k (Some p) same stays old = let s = stays p old.0 refl old.1 old.3 in
    (old.0, s.0, same ∙ old.2, s.1)

-- a place that had no key is no live place
keyless : {X : Type 0} (p q k : ℕ) (o : Opening) (t : Execution) (s : Role) → role o p t ≡ s →
    role_key s ≡ None → p ≡ q → role_key (role o q t) ≡ Some k → X
keyless p q k o t s e none z keyed = none_some
    (sym none ∙ (ap role_key (sym e) ∙ (ap (λ (y : ℕ). role_key (role o y t)) z ∙ keyed)))

role_else : (o : Opening) (t : Execution) (p q k : ℕ) (u s : Role) → role o p t ≡ s →
    role_key s ≡ None → role_key (role o q t) ≡ Some k →
    role_key (cond (p == q) u (role o q t)) ≡ Some k
role_else o t p q k u s e none keyed = dite (ℕ_discrete p q)
    (λ (z : p ≡ q). keyless p q k o t s e none z keyed)
    (λ (n : p ≢ q). ap role_key (choice-other p q u (role o q t) n) ∙ keyed)

form_else : (o : Opening) (t : Execution) (p q x : ℕ) (f : Form) → p ≢ q →
    live_value (form o q t) ≡ Some x → live_value (cond (p == q) f (form o q t)) ≡ Some x
form_else o t p q x f n l = ap live_value (choice-other p q f (form o q t) n) ∙ l

pub emptied_keeps : (g : ℕ) (s : Role) → ((j : ℕ) → s ≢ InArray g j) → emptied g s ≡ s
emptied_keeps g Unused away = refl
emptied_keeps g (HeldBy c) away = refl
emptied_keeps g (InBuffer h j) away = refl
emptied_keeps g (InArray h j) away = choice-other h g Unused (InArray h j)
    (λ z. away j (ap (λ (y : ℕ). InArray y j) z))

left_kept : (c : ℕ) (was r : Bool) (y : ℕ) (d : Change) → IsChangeTo c was r y d → left_by d ≡ unless r y
left_kept c was r y (change.Put b k v) m = ap Some m.2 ∙ ap (λ (z : Bool). unless z y) (sym m.1)
left_kept c was r y (change.Remove b k) m = ap (λ (z : Bool). unless z y) (sym m.1)

put_makes : (c y : ℕ) (d : Change) → IsChangeTo c false false y d → put_value d ≡ y
put_makes c y (change.Put b k v) m = m.2
put_makes c y (change.Remove b k) m = not_so m.1

value-here : (o : Opening) (t : Execution) (d : Change) (k : ℕ) → key_of d ≡ k →
    look (map_after d (after (opening_map o) (history t))) k ≡ left_by d
value-here o t d k z = subst (λ (y : ℕ). look
    (map_after d (after (opening_map o) (history t))) y ≡ left_by d) z
    (look-here (after (opening_map o) (history t)) d)

value-else : (o : Opening) (t : Execution) (d : Change) (k : ℕ) → key_of d ≢ k →
    look (map_after d (after (opening_map o) (history t))) k ≡ value_in_map o k t
value-else o t d k n = look-else (after (opening_map o) (history t)) d k (λ z. n (sym z))

map_agrees_unlock : (o : Opening) (t : Execution) (b p : ℕ) (r : Bool) (d : Change) (raised : ℕ) →
    MayUnlock o t b p r d → MapAgrees o t → MapAgrees o (event b (Unlock p r d raised) ∷ t)
map_agrees_unlock o t b p r d raised may old k = dite (ℕ_discrete (key_of d) k) here there
  where
    T : Execution
    T = event b (Unlock p r d raised) ∷ t

    left : key_of d ≡ k → value_in_map o k T ≡ unless r may.value
    left z = value-here o t d k z ∙ left_kept b may.was r may.value d may.makes

    now : form o p T ≡ without_lock r (Locked b may.version may.was may.before may.value)
    now = choice-same p p (without_lock r (form o p t)) (form o p t) refl
        ∙ ap (without_lock r) may.holds

    at : (w : Bool) → r ≡ w → key_of d ≡ k → HasLiveValue o T k (cond w None (Some p))
    at true e z = left z ∙ ap (λ (y : Bool). unless y may.value) e
    at false e z = (
      may.value,
      ap live_value now ∙ ap (λ (y : Bool). unless y may.value) e,
      left z
          ∙ ap (λ (y : Bool). unless y may.value) e,
      may.keyed ∙ ap Some z,
    )

    here : key_of d ≡ k → HasLiveValue o T k (live_place o k T)
    here z = subst (HasLiveValue o T k) (sym (choice-same (key_of d) k (cond r None (Some p))
        (live_place o k t) z)) (at r refl z)

    there : key_of d ≢ k → HasLiveValue o T k (live_place o k T)
    there n = subst (HasLiveValue o T k) (sym
        (choice-other (key_of d) k (cond r None (Some p)) (live_place o k t) n))
        (keep o t b (Unlock p r d raised) k (live_place o k t) (value-else o t d k n)
        (λ q x h l keyed. (
          form_else o t p q x (without_lock r (form o q t))
              (λ z. n (some_is (sym may.keyed
              ∙ (ap (λ (y : ℕ). role_key (role o y t)) z ∙ keyed)))) l,
          keyed,
        )) (old k))

map_agrees_link : (o : Opening) (t : Execution) (b g lane p : ℕ) (d : Change) (prior next : ℕ) →
    MayLink o t b g lane p d prior next → MapAgrees o t →
    MapAgrees o (event b (LinkRow g lane p d prior next) ∷ t)
map_agrees_link o t b g lane p d prior next may old k = dite (ℕ_discrete (key_of d) k)
    (λ (z : key_of d ≡ k). subst (HasLiveValue o T k)
    (sym (choice-same (key_of d) k (Some p) (live_place o k t) z)) (
      may.value,
      now,
      value-here o t d k z ∙ left_kept b false false may.value d may.makes,
      ap role_key (choice-same p p (InBuffer g (key_of d)) (role o p t) refl) ∙ ap Some z,
    ))
    (λ (n : key_of d ≢ k). subst (HasLiveValue o T k)
    (sym (choice-other (key_of d) k (Some p) (live_place o k t) n))
    (keep o t b (LinkRow g lane p d prior next) k (live_place o k t) (value-else o t d k n)
    (λ q x h l keyed. (
      form_else o t p q x (Unlocked (first_version o) false (put_value d))
          (λ z. keyless p q k o t (HeldBy b) may.mine refl z keyed) l,
      role_else o t p q k (InBuffer g (key_of d)) (HeldBy b) may.mine refl keyed,
    )) (old k)))
  where
    T : Execution
    T = event b (LinkRow g lane p d prior next) ∷ t

    now : live_value (form o p T) ≡ Some may.value
    now = ap live_value (choice-same p p (Unlocked (first_version o) false (put_value d))
        (form o p t) refl) ∙ ap Some (put_makes b may.value d may.makes)

map_agrees_direct : (o : Opening) (t : Execution) (b a p j : ℕ) (r : Bool) (raised : ℕ) →
    MayDirect o t b a p j r raised → OnlyLive o t → MapAgrees o t →
    MapAgrees o (event b (StoreDirect a p j r raised) ∷ t)
map_agrees_direct o t b a p j r raised may one old k =
    dite (ℕ_discrete j k) (λ (z : j ≡ k). subst (HasLiveValue o T k)
    (sym (choice-same j k (cond r (live_place o k t) (Some a)) (live_place o k t) z))
    (here r refl z))
    (λ (n : j ≢ k). subst (HasLiveValue o T k)
    (sym (choice-other j k (cond r (live_place o k t) (Some a)) (live_place o k t) n))
    (rest (λ q x h l keyed z. n (some_is (sym may.there
    ∙ (ap (λ (y : ℕ). role_key (role o y t)) z ∙ keyed))))))
  where
    T : Execution
    T = event b (StoreDirect a p j r raised) ∷ t

    at_a : form o a T ≡ Unlocked (first_version o) r may.value
    at_a = choice-same a a (made_direct (first_version o) r (form o a t))
        (cond (p == a) (copied_away (form o a t)) (form o a t)) refl
        ∙ ap (made_direct (first_version o) r) may.forwards

    other : (q x : ℕ) → live_value (form o q t) ≡ Some x → p ≢ q → live_value (form o q T) ≡ Some x
    other q x l n = ap live_value (choice-other a q (made_direct (first_version o) r (form o q t))
        (cond (p == q) (copied_away (form o q t)) (form o q t))
        (λ z. none_some (ap live_value (sym may.forwards ∙ ap (λ (y : ℕ). form o y t) z) ∙ l))
        ∙ choice-other p q (copied_away (form o q t)) (form o q t) n) ∙ l

    rest : ((q x : ℕ) → live_place o k t ≡ Some q → live_value (form o q t) ≡ Some x →
        role_key (role o q t) ≡ Some k → p ≢ q) → HasLiveValue o T k (live_place o k t)
    rest apart = keep o t b (StoreDirect a p j r raised) k (live_place o k t) refl
        (λ q x h l keyed. (other q x l (apart q x h l keyed), keyed)) (old k)

    removed_not : (x : ℕ) → r ≡ true → live_value (form o p t) ≡ Some x → ⊥
    removed_not x e l = none_some (sym (ap live_value may.holds
        ∙ ap (λ (y : Bool). unless y may.value) e) ∙ l)

    same_value : (h : Option ℕ) → h ≡ Some p → HasLiveValue o t k h → r ≡ false →
        value_in_map o k t ≡ Some may.value
    same_value None e hm f = none_some e
    same_value (Some q) e hm f = let z : q ≡ p = some_is e in
        let l : live_value (form o p t) ≡ Some hm.0 =
        ap (λ (y : ℕ). live_value (form o y t)) (sym z) ∙ hm.1 in
        hm.2 ∙ (sym l ∙ (ap live_value may.holds ∙ ap (λ (y : Bool). unless y may.value) f))

    here : (w : Bool) → r ≡ w → j ≡ k → HasLiveValue o T k (cond w (live_place o k t) (Some a))
    here true e z = rest (λ q x h l keyed y. removed_not x e
        (ap (λ (i : ℕ). live_value (form o i t)) y ∙ l))
    here false e z = let mine : live_place o k t ≡ Some p =
        subst (λ (y : ℕ). live_place o y t ≡ Some p) z
        (one p j may.value may.there (ap live_value may.holds
        ∙ ap (λ (y : Bool). unless y may.value) e)) in (
          may.value,
          ap live_value at_a ∙ ap (λ (y : Bool). unless y may.value) e,
          same_value
              (live_place o k t) mine (old k) e,
          ap role_key may.here ∙ ap Some z,
        )

map_agrees_step : (o : Opening) (t : Execution) (b : ℕ) (d : Action) → Allowed o t b d →
    OnlyLive o t → MapAgrees o t → MapAgrees o (event b d ∷ t)
map_agrees_step o t b (Unlock p r d raised) may one old =
    map_agrees_unlock o t b p r d raised may.1 old
map_agrees_step o t b (LinkRow g lane p d prior next) may one old =
    map_agrees_link o t b g lane p d prior next may old
map_agrees_step o t b (StoreDirect a p j r raised) may one old =
    map_agrees_direct o t b a p j r raised may one old
map_agrees_step o t b (PopFree p next) may one old = λ k.
    keep o t b (PopFree p next) k (live_place o k t) refl
    (λ q x h l e. (l, role_else o t p q k (HeldBy b) Unused may.2.unused refl e)) (old k)
map_agrees_step o t b (PushFree p head) may one old = λ k.
    keep o t b (PushFree p head) k (live_place o k t) refl
    (λ q x h l e. (l, role_else o t p q k Unused (HeldBy b) may.held refl e)) (old k)
map_agrees_step o t b (Retire p next) may one old = λ k.
    keep o t b (Retire p next) k (live_place o k t) refl
    (λ q x h l e. (
      l,
      ap role_key (choice-other p q (HeldBy b) (role o q t)
          (λ z. may.not_live k (h ∙ ap Some (sym z)))) ∙ e,
    )) (old k)
map_agrees_step o t b (NewGroup g low high f) may one old = λ k.
    keep o t b (NewGroup g low high f) k (live_place o k t) refl
    (λ q x h l e. (l, ap role_key (emptied_keeps g (role o q t) (λ j. may.not_live k q j h)) ∙ e))
    (old k)
map_agrees_step o t b (Lock p expected) may one old = λ k.
    keep o t b (Lock p expected) k (live_place o k t) refl
    (λ q x h l e. (
      live_value_if (p == q) (with_lock b (form o q t)) (form o q t)
          (live_value-with_lock b (form o q t)) ∙ l,
      e,
    )) (old k)
map_agrees_step o t b (Close p expected) may one old = λ k.
    keep o t b (Close p expected) k (live_place o k t) refl
    (λ q x h l e. (
      live_value_if (p == q) (with_lock b (form o q t)) (form o q t)
          (live_value-with_lock b (form o q t)) ∙ l,
      e,
    )) (old k)
map_agrees_step o t b (StoreValue p y) may one old = λ k.
    keep o t b (StoreValue p y) k (live_place o k t) refl
    (λ q x h l e. (
      live_value_if (p == q) (with_value y (form o q t)) (form o q t)
          (live_value-with_value y (form o q t)) ∙ l,
      e,
    )) (old k)
map_agrees_step o t b (Copy p y) may one old = λ k.
    keep o t b (Copy p y) k (live_place o k t) refl
    (λ q x h l e. (
      live_value_if (p == q) (with_value y (form o q t)) (form o q t)
          (live_value-with_value y (form o q t)) ∙ l,
      e,
    )) (old k)
map_agrees_step o t b (StoreRedirect g a j p) may one old = λ k.
    keep o t b (StoreRedirect g a j p) k (live_place o k t) refl
    (λ q x h l e. (
      form_else o t a q x (Redirect p 0)
          (λ z. keyless a q k o t Unused may.unused refl z e) l,
      role_else o t a q k
          (InArray g j) Unused may.unused refl e,
    )) (old k)
map_agrees_step o t b (StoreMoved p) may one old = λ k.
    keep o t b (StoreMoved p) k (live_place o k t) refl
    (λ q x h l e. (
      form_else o t p q x Moved (λ z.
          none_some (sym (ap live_value may.copied)
          ∙ (ap (λ (y : ℕ). live_value (form o y t)) z ∙ l))) l,
      e,
    )) (old k)
map_agrees_step o t b d may one old = old

pub map_agrees : (o : Opening) → OnlyLive o [] → MapAgrees o [] → (t : Execution) → Valid o t →
    MapAgrees o t
map_agrees o one start [] valid = start
map_agrees o one start (e ∷ t) valid = map_agrees_step o t e.by e.action valid.0
    (only_live o one t valid.1) (map_agrees o one start t valid.1)
