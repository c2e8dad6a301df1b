-- A redirect leads to the record itself: what it leads to is of a group that holds its records, and
-- no other redirect leads there.
use Rattle.std.proofs.Common.{◌≡◌, ◌≢◌, ℕ, ◌⊎◌, inl, inr, ⊎_elim, Option, Some, Bool, true, false}
use Rattle.std.proofs.Common.{[], ◌∷◌, cond, refl, sym, ap, ◌∙◌, subst}
use Rattle.std.specs.Prelude.{◌==◌}
use Rattle.index_machine.proofs.OfParts.{opened_elsewhere, successor_of_part, stays_successor}
use Rattle.index_machine.proofs.Executions.{choice-same}
use Rattle.index_machine.specs.Conditions.{Allowed, Valid}
use Rattle.index_machine.specs.Execution.{Execution, event}
use Rattle.index_machine.specs.Forms.{Blank, Copied, Form, Locked, Moved, Redirect, Unlocked}
use Rattle.index_machine.specs.Forms.{copied_away, made_direct}
use Rattle.index_machine.specs.Groups.{phase}
use Rattle.index_machine.specs.KeyRanges.{group_of, or_else, successor}
use Rattle.index_machine.specs.Openings.{within}
use Rattle.index_machine.proofs.OpeningRows.{opening_form-redirect}
use Rattle.index_machine.specs.Places.{IsInGroup, first_version, form}
use Rattle.index_machine.specs.Rows.{InArray, Unused, role, role_key}
use Rattle.index_machine.specs.declared.events.Action.{Action}
use Rattle.index_machine.specs.declared.events.Action.TheVariants.{Install, NewGroup, StoreDirect}
use Rattle.index_machine.specs.declared.events.Action.TheVariants.{StoreRedirect}
use Rattle.index_machine.specs.declared.events.InstallWord.{InstallWord}
use Rattle.index_machine.specs.declared.opening.Opening.{Opening}
use Rattle.machine_barriers.proofs.OpenedGroups.{open_not}
use Rattle.machine_barriers.proofs.Reaches.{may_as}
use Rattle.index_machine.proofs.Options.{some_is}
use Rattle.machine_readers.proofs.CopiedPlaces.{CopiedKeysHaveLeft, PlacesAreFilled}
use Rattle.machine_readers.proofs.CopiedPlaces.{copied_keys_have_left, one_group}
use Rattle.machine_readers.proofs.CopiedPlaces.{places_are_filled}
use Rattle.machine_readers.proofs.FormKinds.{Away, CopiesFrom, Direct, Empty, Forward, Kind}
use Rattle.machine_readers.proofs.FormKinds.{MakesDirect, kind, kind_step}
use Rattle.machine_readers.proofs.NewRedirects.{in_group_keyed, target_stays}
use Rattle.machine_readers.proofs.Redirects.{old_keyed, redirect_back, redirects_lead_to_old}
use Rattle.machine_readers.proofs.Roles.{array_back}
use Rattle.machine_readers.specs.Redirects.{RedirectsLeadToOld}
use Rattle.word_layout.specs.declared.phase.Phase.TheVariants.{Opened}

-- a redirect of an array was one before, or the action writes it
redirect_was : (o : Opening) (t : Execution) (b : ℕ) (d : Action) (a h k p y : ℕ) →
    Allowed o t b d → role o a (event b d ∷ t) ≡ InArray h k →
    form o a (event b d ∷ t) ≡ Redirect p y →
    ((role o a t ≡ InArray h k) × ((z : ℕ) × (form o a t ≡ Redirect p z)))
    ⊎ (d ≡ StoreRedirect h a k p)
redirect_was o t b d a h k p y may s e = ⊎_elim
    (λ (v : role o a t ≡ InArray h k). ⊎_elim
    (λ (w : (z : ℕ) × (form o a t ≡ Redirect p z)). inl (v, w))
    (λ (w : (g : ℕ) × (j : ℕ) × (d ≡ StoreRedirect g a j p)).
    let bad : InArray h k ≡ Unused = sym v
    ∙ (may_as o t b d (StoreRedirect w.0 a w.1 p) w.2 may).unused in cc)
    (redirect_back o t b d a p y e))
    (λ (v : (to : ℕ) × (d ≡ StoreRedirect h a k to)).
    let now : Redirect v.0 0 ≡ Redirect p y =
    sym (choice-same a a (Redirect v.0 0) (form o a t) refl)
    ∙ subst (λ (i : Action). form o a (event b i ∷ t) ≡ Redirect p y) v.1 e in
    let same : v.0 ≡ p = cc in
    inr (v.1 ∙ ap (λ (i : ℕ). StoreRedirect h a k i) same))
    (array_back o t b d a h k s)

-- ---- redirects into the group of the chain ----

-- a redirect into the key's group stands in the key's new group
abbrev pub RedirectsAwait : Opening → Execution → Type 0
RedirectsAwait o t =
    (a h k p y : ℕ) → role o a t ≡ InArray h k → form o a t ≡ Redirect p y →
    IsInGroup o t (group_of o k t) k p → successor k t ≡ Some h

-- of a redirect that was there before
redirect_awaits : (o : Opening) (t : Execution) (b : ℕ) (d : Action) (a h k p z : ℕ) →
    Valid o t → Allowed o t b d → RedirectsLeadToOld o t → RedirectsAwait o t →
    role o a t ≡ InArray h k → form o a t ≡ Redirect p z →
    IsInGroup o (event b d ∷ t) (group_of o k (event b d ∷ t)) k p →
    successor k (event b d ∷ t) ≡ Some h
redirect_awaits o t b d a h k p z valid may leads old s e there = go d may here
  where
    -- the group of the place is opened, and is the key's after the action
    place : (g : ℕ) × (f : ℕ) × (phase g t ≡ Opened f) × IsInGroup o t g k p
    place = leads a h k p z s e

    here : place.0 ≡ group_of o k (event b d ∷ t)
    here = one_group o (event b d ∷ t) place.0 (group_of o k (event b d ∷ t)) k k p
        (target_stays o t b d a place.0 k p z may e place.3) there

    was : place.0 ≡ group_of o k t → successor k t ≡ Some h
    was w = old a h k p z s e (subst (λ (i : ℕ). IsInGroup o t i k p) w place.3)

    installed : (spot : InstallWord) (lead low high : ℕ) →
        Allowed o t b (Install spot lead low high) →
        place.0 ≡ group_of o k (event b (Install spot lead low high) ∷ t) → (w : Bool) →
        within low k high ≡ w → successor k t ≡ Some h
    installed spot lead low high may here false x = was (here
        ∙ ap (λ (i : Bool). cond i (or_else (successor k t) (group_of o k t)) (group_of o k t)) x)
    installed spot lead low high may here true x = let m = may.opened k x in
        let now : place.0 ≡ m.1 = here
        ∙ (ap (λ (i : Bool). cond i (or_else (successor k t) (group_of o k t)) (group_of o k t)) x
        ∙ ap (λ (i : Option ℕ). or_else i (group_of o k t)) m.3) in
        absurd (open_not (sym m.5 ∙ (ap (λ (i : ℕ). phase i t) (sym now) ∙ place.2)))

    go : (d : Action) → Allowed o t b d → place.0 ≡ group_of o k (event b d ∷ t) →
        successor k (event b d ∷ t) ≡ Some h
    go (Install spot lead low high) may here =
        installed spot lead low high may here (within low k high) refl
    go (NewGroup n low high f) may here =
        let at : phase (group_of o k t) t ≡ Opened place.1 =
        ap (λ (i : ℕ). phase i t) (sym here) ∙ place.2
        in
        let same = successor_of_part o t k h valid (was here) in
        stays_successor o t b n low high f k h valid may
        (λ w. opened_elsewhere o t b n low high f valid may k place.1 at (sym same ∙ w)) (was here)
    go d may here = was here

await_step : (o : Opening) (t : Execution) (b : ℕ) (d : Action) → Valid o t → Allowed o t b d →
    RedirectsLeadToOld o t → RedirectsAwait o t → RedirectsAwait o (event b d ∷ t)
await_step o t b d valid may leads old a h k p y s e there = ⊎_elim
    (λ (z : (role o a t ≡ InArray h k) × ((z : ℕ) × (form o a t ≡ Redirect p z))).
    redirect_awaits o t b d a h k p z.1.0 valid may leads old z.0 z.1.1 there)
    (λ (z : d ≡ StoreRedirect h a k p).
    subst (λ (i : Action). successor k (event b i ∷ t) ≡ Some h) (sym z)
    (may_as o t b d (StoreRedirect h a k p) z may).belongs)
    (redirect_was o t b d a h k p y may s e)

redirects_await : (o : Opening) → RedirectsLeadToOld o [] → (t : Execution) → Valid o t →
    RedirectsAwait o t
redirects_await o start [] valid = λ a h k p y s e there. opening_form-redirect o a p y e
redirects_await o start (e ∷ t) valid =
    await_step o t e.by e.action valid.1 valid.0 (redirects_lead_to_old o start t valid.1)
    (redirects_await o start t valid.1)

-- ---- one redirect to a place ----

-- no two redirects lead to one place
abbrev pub RedirectsAreApart : Opening → Execution → Type 0
RedirectsAreApart o t =
    (a c h i k j p y z : ℕ) → role o a t ≡ InArray h k → role o c t ≡ InArray i j →
    form o a t ≡ Redirect p y → form o c t ≡ Redirect p z → a ≡ c

redirect_place : {g a k to h c j u : ℕ} → StoreRedirect g a k to ≡ StoreRedirect h c j u → a ≡ c
redirect_place e = cc

-- a redirect is not written to a place to which one leads
not_written : (o : Opening) (t : Execution) (b : ℕ) (d : Action) (a c h i k j p z : ℕ) →
    Allowed o t b d → RedirectsLeadToOld o t → RedirectsAwait o t →
    d ≡ StoreRedirect h a k p → role o c t ≡ InArray i j → form o c t ≡ Redirect p z → ⊥
not_written o t b d a c h i k j p z may leads await is s e =
    let m = may_as o t b d (StoreRedirect h a k p) is may in
    let key : j ≡ k = some_is (sym (old_keyed o t j p (leads c i j p z s e))
    ∙ in_group_keyed o t (group_of o k t) k p m.source) in
    let role : role o c t ≡ InArray i k = s ∙ ap (λ (x : ℕ). InArray i x) key in
    let same : i ≡ h = some_is (sym (await c i k p z role e m.source) ∙ m.belongs) in
    m.alone c (role ∙ ap (λ (x : ℕ). InArray x k) same)

apart_step : (o : Opening) (t : Execution) (b : ℕ) (d : Action) → Allowed o t b d →
    RedirectsLeadToOld o t → RedirectsAwait o t → RedirectsAreApart o t →
    RedirectsAreApart o (event b d ∷ t)
apart_step o t b d may leads await old a c h i k j p y z s r e f = ⊎_elim
    (λ (v : (role o a t ≡ InArray h k) × ((x : ℕ) × (form o a t ≡ Redirect p x))). ⊎_elim
    (λ (w : (role o c t ≡ InArray i j) × ((x : ℕ) × (form o c t ≡ Redirect p x))).
    old a c h i k j p v.1.0 w.1.0 v.0 w.0 v.1.1 w.1.1)
    (λ (w : d ≡ StoreRedirect i c j p).
    absurd (not_written o t b d c a i h j k p v.1.0 may leads await w v.0 v.1.1))
    (redirect_was o t b d c i j p z may r f))
    (λ (v : d ≡ StoreRedirect h a k p). ⊎_elim
    (λ (w : (role o c t ≡ InArray i j) × ((x : ℕ) × (form o c t ≡ Redirect p x))).
    absurd (not_written o t b d a c h i k j p w.1.0 may leads await v w.0 w.1.1))
    (λ (w : d ≡ StoreRedirect i c j p). redirect_place (sym v ∙ w))
    (redirect_was o t b d c i j p z may r f))
    (redirect_was o t b d a h k p y may s e)

redirects_are_apart : (o : Opening) → RedirectsLeadToOld o [] → (t : Execution) → Valid o t →
    RedirectsAreApart o t
redirects_are_apart o start [] valid = λ a c h i k j p y z s r e f. opening_form-redirect o a p y e
redirects_are_apart o start (e ∷ t) valid =
    apart_step o t e.by e.action valid.0 (redirects_lead_to_old o start t valid.1)
    (redirects_await o start t valid.1) (redirects_are_apart o start t valid.1)

-- ---- targets ----

-- a redirect leads to a record itself
abbrev pub TargetsAreDirect : Opening → Execution → Type 0
TargetsAreDirect o t =
    (a g k p y : ℕ) → role o a t ≡ InArray g k → form o a t ≡ Redirect p y →
    kind (form o p t) ≡ Direct

pub direct_if : (x : Kind) → x ≢ Empty → x ≢ Away → x ≢ Forward → x ≡ Direct
direct_if Empty e a f = absurd (e refl)
direct_if Direct e a f = refl
direct_if Away e a f = absurd (a refl)
direct_if Forward e a f = absurd (f refl)

pub forward_is : (x : Form) → kind x ≡ Forward → (q : ℕ) × (y : ℕ) × (x ≡ Redirect q y)
forward_is Blank e = let bad = e in cc
forward_is (Unlocked v r x) e = let bad = e in cc
forward_is (Locked c v r x z) e = let bad = e in cc
forward_is (Copied v r x) e = let bad = e in cc
forward_is (Redirect p y) e = (p, y, refl)
forward_is Moved e = let bad = e in cc

-- a place that is made direct forwards nowhere
made_kind : (o : Opening) (t : Execution) (b : ℕ) (d : Action) (a p j u v : ℕ) (r : Bool) →
    d ≡ StoreDirect a p j r u → form o a t ≡ Redirect p v →
    kind (form o a (event b d ∷ t)) ≡ Direct
made_kind o t b d a p j u v r e f =
    subst (λ (i : Action). kind (form o a (event b i ∷ t)) ≡ Direct) (sym e)
    (ap kind (choice-same a a (made_direct (first_version o) r (form o a t))
    (cond (p == a) (copied_away (form o a t)) (form o a t)) refl)
    ∙ ap (λ (x : Form). kind (made_direct (first_version o) r x)) f)

-- the record to which a redirect is written
source_direct : (o : Opening) (t : Execution) (b : ℕ) (h a k p : ℕ) →
    Allowed o t b (StoreRedirect h a k p) → PlacesAreFilled o t → CopiedKeysHaveLeft o t →
    kind (form o p t) ≡ Direct
source_direct o t b h a k p may filled left = direct_if (kind (form o p t))
    (filled (group_of o k t) k p may.source)
    (λ e. (left (group_of o k t) k p may.source e).0 refl)
    (λ e. let w = forward_is (form o p t) e in may.direct w.0 w.1 w.2)

targets_step : (o : Opening) (t : Execution) (b : ℕ) (d : Action) → Allowed o t b d →
    RedirectsLeadToOld o t → RedirectsAreApart o t → PlacesAreFilled o t →
    CopiedKeysHaveLeft o t → TargetsAreDirect o t → TargetsAreDirect o (event b d ∷ t)
targets_step o t b d may leads apart filled left old a g k p y s e = ⊎_elim
    (λ (z : (role o a t ≡ InArray g k) × ((x : ℕ) × (form o a t ≡ Redirect p x))).
    on (old_keyed o t k p (leads a g k p z.1.0 z.0 z.1.1)) (old a g k p z.1.0 z.0 z.1.1)
    (λ c. not_copied z.0 z.1.0 z.1.1 c.0 c.1 c.2 c.3 c.4))
    (λ (z : d ≡ StoreRedirect g a k p).
    let m = may_as o t b d (StoreRedirect g a k p) z may in
    on (in_group_keyed o t (group_of o k t) k p m.source)
    (source_direct o t b g a k p m filled left)
    (λ c. let bad = sym z ∙ c.4 in cc))
    (redirect_was o t b d a g k p y may s e)
  where
    on : role_key (role o p t) ≡ Some k → kind (form o p t) ≡ Direct → (CopiesFrom p d → ⊥) →
        kind (form o p (event b d ∷ t)) ≡ Direct
    on keyed was never = ⊎_elim
        (λ (w : kind (form o p (event b d ∷ t)) ≡ kind (form o p t)). w ∙ was)
        (λ (x : (MakesDirect p d × (kind (form o p (event b d ∷ t)) ≡ Direct))
        ⊎ (CopiesFrom p d × (kind (form o p (event b d ∷ t)) ≡ Away))). ⊎_elim
        (λ (w : MakesDirect p d × (kind (form o p (event b d ∷ t)) ≡ Direct)). w.1)
        (λ (w : CopiesFrom p d × (kind (form o p (event b d ∷ t)) ≡ Away)).
        absurd (never w.0)) x)
        (kind_step o t b d p k may keyed)

    not_copied : role o a t ≡ InArray g k → (x : ℕ) → form o a t ≡ Redirect p x →
        (c j : ℕ) (r : Bool) (u : ℕ) → d ≡ StoreDirect c p j r u → ⊥
    not_copied was x f c j r u is =
        let m = may_as o t b d (StoreDirect c p j r u) is may in
        let same : c ≡ a =
        apart c a (group_of o j t) g j k p m.value x m.here was m.forwards f in
        let now : kind (form o a (event b d ∷ t)) ≡ Direct =
        made_kind o t b d a p j u x r (is ∙ ap (λ (i : ℕ). StoreDirect i p j r u) same) f in
        let bad : Direct ≡ Forward = sym now ∙ ap kind e in cc

pub targets_are_direct : (o : Opening) → RedirectsLeadToOld o [] → (t : Execution) →
    Valid o t → TargetsAreDirect o t
targets_are_direct o start [] valid = λ a g k p y s e. opening_form-redirect o a p y e
targets_are_direct o start (e ∷ t) valid =
    targets_step o t e.by e.action valid.0 (redirects_lead_to_old o start t valid.1)
    (redirects_are_apart o start t valid.1) (places_are_filled o t valid.1)
    (copied_keys_have_left o t valid.1) (targets_are_direct o start t valid.1)
