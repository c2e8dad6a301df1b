-- A place of a key that has a value is the live place of the key: so there is one at most.
use Rattle.std.proofs.Common.{◌≡◌, ◌≢◌, ℕ, Some, None, Bool, true, false, [], ◌∷◌, cond, refl, sym}
use Rattle.std.proofs.Common.{ap, ◌∙◌, subst}
use Rattle.std.specs.Prelude.{◌==◌}
use mathlib.Core.Logic.{dite}
use native.Mathlib.Decide.{ℕ_discrete}
use Rattle.index_machine.proofs.Executions.{choice-other, choice-same}
use Rattle.index_machine.specs.Conditions.{Allowed, Valid}
use Rattle.index_machine.specs.Execution.{Execution, event}
use Rattle.index_machine.specs.Forms.{Form, Locked, Moved, Redirect, Unlocked, copied_away}
use Rattle.index_machine.specs.Forms.{live_value, made_direct, put_value, unless, with_lock}
use Rattle.index_machine.specs.Forms.{with_value, without_lock}
use Rattle.index_machine.specs.LivePlaces.{live_place, live_place_after}
use Rattle.index_machine.specs.Places.{first_version, form}
use Rattle.index_machine.specs.RebuildConditions.{MayDirect}
use Rattle.index_machine.specs.RecordConditions.{MayLink, MayUnlock}
use Rattle.index_machine.specs.Rows.{HeldBy, InArray, InBuffer, Role, Unused, role, role_key}
use Rattle.index_machine.specs.declared.events.Action.{Action}
use Rattle.index_machine.specs.declared.events.Action.TheVariants.{Close, Copy, LinkRow, Lock}
use Rattle.index_machine.specs.declared.events.Action.TheVariants.{NewGroup, PopFree, PushFree}
use Rattle.index_machine.specs.declared.events.Action.TheVariants.{Retire, StoreDirect, StoreMoved}
use Rattle.index_machine.specs.declared.events.Action.TheVariants.{StoreRedirect, StoreValue}
use Rattle.index_machine.specs.declared.events.Action.TheVariants.{Unlock}
use Rattle.index_machine.specs.declared.opening.Opening.{Opening}
use Rattle.machine_places.proofs.Forms.{emptied_back, live_value-with_lock, live_value-with_value}
use Rattle.index_machine.proofs.Options.{none_some, some_is}
use Rattle.machine_places.proofs.Forms.{live_value_if}
use Rattle.machine_places.specs.Agreement.{OnlyLive}
use Rattle.map_model.specs.Map.{key_of}
use Rattle.map_model.specs.declared.entries.Change.{Change}

-- a key in the role after the step was there before, if the place q is not placed by it
drop_role : (q p : ℕ) (s u : Role) (k : ℕ) → role_key u ≡ None →
    role_key (cond (q == p) u s) ≡ Some k → role_key s ≡ Some k
drop_role q p s u k none e = go (q == p) e
  where
    go : (b : Bool) → role_key (cond b u s) ≡ Some k → role_key s ≡ Some k
    go true e = none_some (sym none ∙ e)
    go false e = e

only_live_unlock : (o : Opening) (t : Execution) (b p : ℕ) (r : Bool) (d : Change) (raised : ℕ) →
    MayUnlock o t b p r d → OnlyLive o t → OnlyLive o (event b (Unlock p r d raised) ∷ t)
only_live_unlock o t b p r d raised may old q k x keyed alive = dite (ℕ_discrete p q) here there
  where
    now : (r : Bool) → form o p t ≡ Locked b may.version may.was may.before may.value →
        live_value (without_lock r (form o p t)) ≡ Some x → r ≡ false
    now true e l = none_some (subst (λ (z : Form). live_value (without_lock true z) ≡ Some x) e l)
    now false e l = refl

    here : p ≡ q → live_place_after k (Unlock p r d raised) (live_place o k t) ≡ Some q
    here z = let alive' : live_value (without_lock r (form o p t)) ≡ Some x =
        subst (λ (y : ℕ). live_value (without_lock r (form o y t)) ≡ Some x) (sym z)
        (ap live_value (sym (choice-same p q (without_lock r (form o q t)) (form o q t) z))
        ∙ alive) in
        let kept : r ≡ false = now r may.holds alive' in
        let same : key_of d ≡ k = some_is (sym may.keyed
        ∙ (ap (λ (y : ℕ). role_key (role o y t)) z ∙ keyed)) in
        choice-same (key_of d) k (cond r None (Some p)) (live_place o k t) same
        ∙ (ap (λ (y : Bool). cond y None (Some p)) kept ∙ ap Some z)

    there : p ≢ q → live_place_after k (Unlock p r d raised) (live_place o k t) ≡ Some q
    there n = let before : live_place o k t ≡ Some q =
        old q k x keyed (ap live_value (sym (choice-other p q (without_lock r (form o q t))
        (form o q t) n)) ∙ alive) in
        dite (ℕ_discrete (key_of d) k) (λ (z : key_of d ≡ k). absurd (clash z before may.was refl))
        (λ (m : key_of d ≢ k). choice-other (key_of d) k (cond r None (Some p))
        (live_place o k t) m ∙ before)
      where
        clash : key_of d ≡ k → live_place o k t ≡ Some q → (w : Bool) → may.was ≡ w → ⊥
        clash z before true e = none_some (sym ((may.revives e).4)
            ∙ (ap (λ (y : ℕ). live_place o y t) z ∙ before))
        clash z before false e = let mine : live_place o (key_of d) t ≡ Some p =
            old p (key_of d) may.before may.keyed
            (ap live_value may.holds ∙ ap (λ (y : Bool). unless y may.before) e) in
            n (some_is (sym mine ∙ (ap (λ (y : ℕ). live_place o y t) z ∙ before)))

only_live_link : (o : Opening) (t : Execution) (b g lane p : ℕ) (d : Change) (prior next : ℕ) →
    MayLink o t b g lane p d prior next → OnlyLive o t →
    OnlyLive o (event b (LinkRow g lane p d prior next) ∷ t)
only_live_link o t b g lane p d prior next may old q k x keyed alive = dite (ℕ_discrete p q)
    (λ (z : p ≡ q). let same : key_of d ≡ k =
    some_is (ap role_key (sym (choice-same p q (InBuffer g (key_of d)) (role o q t) z)) ∙ keyed) in
    choice-same (key_of d) k (Some p) (live_place o k t) same ∙ ap Some z)
    (λ (n : p ≢ q). let before : live_place o k t ≡ Some q =
    old q k x (ap role_key (sym (choice-other p q (InBuffer g (key_of d)) (role o q t) n)) ∙ keyed)
    (ap live_value (sym (choice-other p q (Unlocked (first_version o) false (put_value d))
    (form o q t) n)) ∙ alive) in
    dite (ℕ_discrete (key_of d) k) (λ (z : key_of d ≡ k).
    none_some (sym may.not_live_elsewhere ∙ (ap (λ (y : ℕ). live_place o y t) z ∙ before)))
    (λ (m : key_of d ≢ k). choice-other (key_of d) k (Some p) (live_place o k t) m ∙ before))

only_live_direct : (o : Opening) (t : Execution) (b a p j : ℕ) (r : Bool) (raised : ℕ) →
    MayDirect o t b a p j r raised → OnlyLive o t →
    OnlyLive o (event b (StoreDirect a p j r raised) ∷ t)
only_live_direct o t b a p j r raised may old q k x keyed alive = dite (ℕ_discrete a q) here there
  where
    F : Form
    F = cond (p == q) (copied_away (form o q t)) (form o q t)

    is_live : (r : Bool) → live_value (made_direct (first_version o) r
        (Redirect p may.value)) ≡ Some x → r ≡ false
    is_live true l = none_some l
    is_live false l = refl

    here : a ≡ q → live_place_after k (StoreDirect a p j r raised) (live_place o k t) ≡ Some q
    here z = let at : form o q t ≡ Redirect p may.value = ap (λ (y : ℕ). form o y t) (sym z)
        ∙ may.forwards in
        let l : live_value (made_direct (first_version o) r (Redirect p may.value)) ≡ Some x =
        ap (λ (y : Form). live_value (made_direct (first_version o) r y)) (sym at)
        ∙ (ap live_value (sym (choice-same a q (made_direct (first_version o) r (form o q t)) F z))
        ∙ alive) in
        let same : j ≡ k = some_is (sym (ap role_key may.here)
        ∙ (ap (λ (y : ℕ). role_key (role o y t)) z ∙ keyed)) in
        choice-same j k (cond r (live_place o k t) (Some a)) (live_place o k t) same
        ∙ (ap (λ (y : Bool). cond y (live_place o k t) (Some a)) (is_live r l) ∙ ap Some z)

    there : a ≢ q → live_place_after k (StoreDirect a p j r raised) (live_place o k t) ≡ Some q
    there n = let l : live_value F ≡ Some x =
        ap live_value (sym (choice-other a q (made_direct (first_version o) r (form o q t)) F n))
        ∙ alive in dite (ℕ_discrete p q)
        (λ (z : p ≡ q). none_some (sym (ap (λ (y : Form). live_value (copied_away y))
        (ap (λ (y : ℕ). form o y t) (sym z) ∙ may.holds))
        ∙ (ap live_value (sym (choice-same p q (copied_away (form o q t)) (form o q t) z)) ∙ l)))
        (λ (m : p ≢ q). let before : live_place o k t ≡ Some q =
        old q k x keyed (ap live_value (sym (choice-other p q (copied_away (form o q t))
        (form o q t) m)) ∙ l) in dite (ℕ_discrete j k)
        (λ (z : j ≡ k). choice-same j k (cond r (live_place o k t) (Some a)) (live_place o k t) z
        ∙ stays m before z r refl)
        (λ (u : j ≢ k). choice-other j k (cond r (live_place o k t) (Some a)) (live_place o k t) u
        ∙ before))
      where
        stays : p ≢ q → live_place o k t ≡ Some q → j ≡ k → (w : Bool) → r ≡ w →
            cond w (live_place o k t) (Some a) ≡ Some q
        stays m before z true e = before
        stays m before z false e = let mine : live_place o j t ≡ Some p =
            old p j may.value may.there (ap live_value may.holds
            ∙ ap (λ (y : Bool). unless y may.value) e) in
            absurd (m (some_is (sym mine ∙ (ap (λ (y : ℕ). live_place o y t) z ∙ before))))

only_live_step : (o : Opening) (t : Execution) (b : ℕ) (d : Action) → Allowed o t b d →
    OnlyLive o t → OnlyLive o (event b d ∷ t)
only_live_step o t b (PopFree p next) may old = λ q k x e l.
    old q k x (drop_role p q (role o q t) (HeldBy b) k refl e) l
only_live_step o t b (PushFree p head) may old = λ q k x e l.
    old q k x (drop_role p q (role o q t) Unused k refl e) l
only_live_step o t b (Retire p next) may old = λ q k x e l.
    old q k x (drop_role p q (role o q t) (HeldBy b) k refl e) l
only_live_step o t b (NewGroup g low high f) may old = λ q k x e l.
    old q k x (sym (ap role_key (emptied_back g (role o q t) k e)) ∙ e) l
only_live_step o t b (Lock p expected) may old = λ q k x e l.
    old q k x e (sym (live_value_if (p == q) (with_lock b (form o q t)) (form o q t)
    (live_value-with_lock b (form o q t))) ∙ l)
only_live_step o t b (Close p expected) may old = λ q k x e l.
    old q k x e (sym (live_value_if (p == q) (with_lock b (form o q t)) (form o q t)
    (live_value-with_lock b (form o q t))) ∙ l)
only_live_step o t b (StoreValue p y) may old = λ q k x e l.
    old q k x e (sym (live_value_if (p == q) (with_value y (form o q t)) (form o q t)
    (live_value-with_value y (form o q t))) ∙ l)
only_live_step o t b (Copy p y) may old = λ q k x e l.
    old q k x e (sym (live_value_if (p == q) (with_value y (form o q t)) (form o q t)
    (live_value-with_value y (form o q t))) ∙ l)
only_live_step o t b (StoreRedirect g a j p) may old = λ q k x e l. dite (ℕ_discrete a q)
    (λ (z : a ≡ q). none_some (ap live_value (sym (choice-same a q (Redirect p 0) (form o q t) z))
    ∙ l))
    (λ (n : a ≢ q). old q k x (ap role_key (sym (choice-other a q (InArray g j) (role o q t) n))
    ∙ e) (ap live_value (sym (choice-other a q (Redirect p 0) (form o q t) n)) ∙ l))
only_live_step o t b (StoreMoved p) may old = λ q k x e l. dite (ℕ_discrete p q)
    (λ (z : p ≡ q). none_some (ap live_value (sym (choice-same p q Moved (form o q t) z)) ∙ l))
    (λ (n : p ≢ q). old q k x e (ap live_value (sym (choice-other p q Moved (form o q t) n)) ∙ l))
only_live_step o t b (Unlock p r d raised) may old = only_live_unlock o t b p r d raised may.1 old
only_live_step o t b (LinkRow g lane p d prior next) may old =
    only_live_link o t b g lane p d prior next may old
only_live_step o t b (StoreDirect a p j r raised) may old =
    only_live_direct o t b a p j r raised may old
only_live_step o t b d may old = old

pub only_live : (o : Opening) → OnlyLive o [] → (t : Execution) → Valid o t → OnlyLive o t
only_live o start [] valid = start
only_live o start (e ∷ t) valid = only_live_step o t e.by e.action valid.0
    (only_live o start t valid.1)
