-- The new group of a key whose group is opened is not opened itself, and what a group has for a key
-- that awaits it belongs there.
use Rattle.std.proofs.Common.{◌≡◌, ◌≢◌, ℕ, ◌⊎◌, inl, inr, ⊎_elim, Option, Some, Bool, true}
use Rattle.std.proofs.Common.{false, [], ◌∷◌, cond, refl, sym, ap, ◌∙◌, subst}
use mathlib.Core.Logic.{dite}
use native.Mathlib.Decide.{ℕ_discrete}
use Rattle.index_machine.specs.Keepers.{part_of}
use Rattle.index_machine.proofs.OfParts.{opened_elsewhere, successor_of_part, stays_successor, stays_rebuilt}
use Rattle.index_machine.proofs.Executions.{choice-other, choice-same}
use Rattle.index_machine.specs.Conditions.{Allowed, Valid}
use Rattle.index_machine.specs.Execution.{Execution, event}
use Rattle.index_machine.specs.Groups.{phase, rebuild, unless_named}
use Rattle.index_machine.specs.KeyRanges.{group_of, or_else, successor}
use Rattle.index_machine.specs.Openings.{within}
use Rattle.index_machine.specs.Permissions.{IsBufferFor, IsUnopened}
use Rattle.index_machine.specs.Places.{IsInGroup, form}
use Rattle.index_machine.specs.Rows.{HeldBy, InArray, InBuffer, Role, Unused, emptied, role}
use Rattle.index_machine.specs.declared.events.Action.{Action}
use Rattle.index_machine.specs.declared.events.Action.TheVariants.{Freeze, Install, LinkRow}
use Rattle.index_machine.specs.declared.events.Action.TheVariants.{NewGroup, StoreOpened}
use Rattle.index_machine.specs.declared.events.Action.TheVariants.{StoreRedirect, Thaw}
use Rattle.index_machine.specs.declared.events.InstallWord.{InstallWord}
use Rattle.index_machine.specs.declared.opening.Opening.{Opening}
use Rattle.machine_barriers.proofs.OpenedGroups.{begun_back, frozen_not, open_not}
use Rattle.machine_barriers.proofs.OpenedGroups.{opened_back, opened_is}
use Rattle.machine_barriers.proofs.Reaches.{may_as}
use Rattle.index_machine.proofs.Options.{named_before, none_some, some_is}
use Rattle.machine_readers.proofs.FormKinds.{Direct, Forward, kind, linked_kind, redirect_kind}
use Rattle.machine_readers.proofs.Redirects.{phase_stays}
use Rattle.machine_readers.proofs.Roles.{IsLinkOf, array_back, row_back}
use Rattle.word_layout.specs.declared.phase.Phase.TheVariants.{Frozen, Open, Opened}

-- ---- the places of a group ----

-- a place of a group was there before, or the action puts it there
pub in_group_back : (o : Opening) (t : Execution) (b : ℕ) (d : Action) (g k p : ℕ) →
    IsInGroup o (event b d ∷ t) g k p →
    IsInGroup o t g k p
    ⊎ ((IsLinkOf g p k d × (kind (form o p (event b d ∷ t)) ≡ Direct))
    ⊎ ((to : ℕ) × (d ≡ StoreRedirect g p k to)
    × (kind (form o p (event b d ∷ t)) ≡ Forward)))
in_group_back o t b d g k p s = ⊎_elim
    (λ (z : role o p (event b d ∷ t) ≡ InArray g k). ⊎_elim
    (λ (w : role o p t ≡ InArray g k). inl (inl w))
    (λ (w : (to : ℕ) × (d ≡ StoreRedirect g p k to)).
    inr (inr (w.0, w.1, redirect_kind o t b d g p k w.0 w.1)))
    (array_back o t b d p g k z))
    (λ (z : role o p (event b d ∷ t) ≡ InBuffer g k). ⊎_elim
    (λ (w : role o p t ≡ InBuffer g k). inl (inr w))
    (λ (w : IsLinkOf g p k d). inr (inl (w, linked_kind o t b d g w.lane p w.change w.before w.next w.is)))
    (row_back o t b d p g k z)) s

array_of_new : (g k : ℕ) (r : Role) → emptied g r ≡ InArray g k → ⊥
array_of_new g k Unused e = let bad = e in cc
array_of_new g k (HeldBy c) e = let bad = e in cc
array_of_new g k (InBuffer h j) e = let bad = e in cc
array_of_new g k (InArray h j) e = dite (ℕ_discrete h g)
    (λ (z : h ≡ g). let bad : Unused ≡ InArray g k =
    sym (choice-same h g Unused (InArray h j) z) ∙ e in cc)
    (λ (n : h ≢ g). let two : InArray h j ≡ InArray g k =
    sym (choice-other h g Unused (InArray h j) n) ∙ e in let same : h ≡ g = cc in n same)

buffer_of_new : (g k : ℕ) (r : Role) → emptied g r ≡ InBuffer g k → r ≡ InBuffer g k
buffer_of_new g k Unused e = e
buffer_of_new g k (HeldBy c) e = e
buffer_of_new g k (InBuffer h j) e = e
buffer_of_new g k (InArray h j) e = dite (ℕ_discrete h g)
    (λ (z : h ≡ g). let bad : Unused ≡ InBuffer g k =
    sym (choice-same h g Unused (InArray h j) z) ∙ e in cc)
    (λ (n : h ≢ g). sym (choice-other h g Unused (InArray h j) n) ∙ e)

-- a group that is begun has no place
new_is_empty : (o : Opening) (t : Execution) (b g low high f k p : ℕ) →
    Allowed o t b (NewGroup g low high f) →
    IsInGroup o (event b (NewGroup g low high f) ∷ t) g k p → ⊥
new_is_empty o t b g low high f k p may s = ⊎_elim
    (λ (z : role o p (event b (NewGroup g low high f) ∷ t) ≡ InArray g k).
    array_of_new g k (role o p t) z)
    (λ (z : role o p (event b (NewGroup g low high f) ∷ t) ≡ InBuffer g k).
    may.no_row p k (buffer_of_new g k (role o p t) z)) s

-- a group that has a place for a key was the new group of the key before
pub successor_back : (o : Opening) (t : Execution) (b : ℕ) (d : Action) (g k p : ℕ) →
    Allowed o t b d → IsInGroup o (event b d ∷ t) g k p →
    successor k (event b d ∷ t) ≡ Some g → successor k t ≡ Some g
successor_back o t b (NewGroup n low high f) g k p may s e = go (within low k high) refl
  where
    go : (w : Bool) → within low k high ≡ w → successor k t ≡ Some g
    go true z = let same : n ≡ g = some_is (sym
        (ap (λ (i : Bool). cond i (Some n) (unless_named n (successor k t))) z) ∙ e) in
        absurd (new_is_empty o t b n low high f k p may
        (subst (λ (i : ℕ). IsInGroup o (event b (NewGroup n low high f) ∷ t) i k p) (sym same) s))
    go false z = (named_before n (successor k t) g (sym
        (ap (λ (i : Bool). cond i (Some n) (unless_named n (successor k t))) z) ∙ e)).1
successor_back o t b d g k p may s e = e

-- ---- groups that are awaited ----

-- an opened group of the chain stays opened
pub chained_phase : (o : Opening) (t : Execution) (b : ℕ) (d : Action) (k f : ℕ) →
    Allowed o t b d → phase (group_of o k t) t ≡ Opened f →
    phase (group_of o k t) (event b d ∷ t) ≡ Opened f
chained_phase o t b d k f may e = ⊎_elim
    (λ (z : phase (group_of o k t) (event b d ∷ t) ≡ Opened f). z)
    (λ (z : (g : ℕ) × (low : ℕ) × (high : ℕ) × (i : ℕ) × (d ≡ NewGroup g low high i)
    × ((g ≡ group_of o k t) ⊎ (g ≡ f))).
    let m = may_as o t b d (NewGroup z.0 z.1 z.2 z.3) z.4 may in
    ⊎_elim (λ (w : z.0 ≡ group_of o k t). absurd (m.gone.unowned k (sym w)))
    (λ (w : z.0 ≡ f).
    absurd ((m.replaced (group_of o k t) (e ∙ ap (λ (i : ℕ). Opened i) (sym w))).unowned k refl))
    z.5)
    (phase_stays o t b d (group_of o k t) f may e)

-- the new group of a key whose group is opened, made by the rebuild that this was opened to, is not
-- opened
abbrev pub NewGroupsAwait : Opening → Execution → Type 0
NewGroupsAwait o t =
    (k f : ℕ) → phase (group_of o k t) t ≡ Opened f →
    (h : ℕ) × (successor k t ≡ Some h) × (rebuild h t ≡ Some f) × IsUnopened h t

await_opened : (o : Opening) (t : Execution) (b g i : ℕ) → Allowed o t b (StoreOpened g i) →
    NewGroupsAwait o t → NewGroupsAwait o (event b (StoreOpened g i) ∷ t)
await_opened o t b g i may old k f e = dite (ℕ_discrete g (group_of o k t))
    (λ (z : g ≡ group_of o k t).
    let m = may.planned k (sym z) in
    let same : i ≡ f = opened_is
    (sym (choice-same g (group_of o k t) (Opened i) (phase (group_of o k t) t) z) ∙ e) in (
      m.0,
      m.1,
      m.2 ∙ ap (λ (y : ℕ). Some y) same,
      λ j u. open_not (sym (may.fresh m.0 m.2)
          ∙ sym (choice-other g m.0 (Opened i) (phase m.0 t)
          (λ x. may.unchained k m.0 m.2 (sym z ∙ x))) ∙ u),
    ))
    (λ (n : g ≢ group_of o k t).
    let at : phase (group_of o k t) t ≡ Opened f =
    sym (choice-other g (group_of o k t) (Opened i) (phase (group_of o k t) t) n) ∙ e in
    let m = old k f at in (
      m.0,
      m.1,
      m.2,
      λ j u. m.3 j (sym (choice-other g m.0 (Opened i) (phase m.0 t)
          (λ x. (may.past (group_of o k t) f at
          (ap (λ (y : ℕ). rebuild y t) x ∙ m.2)).unowned k refl)) ∙ u),
    ))

await_new : (o : Opening) (t : Execution) (b g low high i : ℕ) →
    Valid o t → Allowed o t b (NewGroup g low high i) → NewGroupsAwait o t →
    NewGroupsAwait o (event b (NewGroup g low high i) ∷ t)
await_new o t b g low high i valid may old k f e =
    let at = begun_back g (group_of o k t) (phase (group_of o k t) t) f e in
    let m = old k f at.2 in
    let elsewhere = opened_elsewhere o t b g low high i valid may k f at.2 in
    let same = successor_of_part o t k m.0 valid m.1 in
    let apart : part_of o m.0 ≢ part_of o g = λ w. elsewhere (sym same ∙ w) in (
      m.0,
      stays_successor o t b g low high i k m.0 valid may apart m.1,
      stays_rebuilt o t b g low high i m.0 f valid apart m.2,
      λ j u. m.3 j (begun_back g m.0 (phase m.0 t) j u).2,
    )

await_install : (o : Opening) (t : Execution) (b : ℕ) (spot : InstallWord)
    (lead low high : ℕ) → Allowed o t b (Install spot lead low high) → NewGroupsAwait o t →
    NewGroupsAwait o (event b (Install spot lead low high) ∷ t)
await_install o t b spot lead low high may old k f e = go (within low k high) refl
  where
    T : Execution
    T = event b (Install spot lead low high) ∷ t

    go : (w : Bool) → within low k high ≡ w →
        (h : ℕ) × (successor k t ≡ Some h) × (rebuild h t ≡ Some f) × IsUnopened h t
    go false z = let same : group_of o k T ≡ group_of o k t =
        ap (λ (i : Bool). cond i (or_else (successor k t) (group_of o k t)) (group_of o k t)) z in
        old k f (ap (λ (i : ℕ). phase i t) (sym same) ∙ e)
    go true z = let m = may.opened k z in
        let same : group_of o k T ≡ m.1 =
        ap (λ (i : Bool). cond i (or_else (successor k t) (group_of o k t)) (group_of o k t)) z
        ∙ ap (λ (i : Option ℕ). or_else i (group_of o k t)) m.3 in
        absurd (open_not (sym m.5 ∙ (ap (λ (i : ℕ). phase i t) (sym same) ∙ e)))

await_step : (o : Opening) (t : Execution) (b : ℕ) (d : Action) → Valid o t → Allowed o t b d →
    NewGroupsAwait o t → NewGroupsAwait o (event b d ∷ t)
await_step o t b (Freeze g) valid may old k f e =
    let m = old k f
    (opened_back g (group_of o k t) Frozen (phase (group_of o k t) t) f frozen_not e).1 in
    (m.0, m.1, m.2, λ j u. m.3 j (opened_back g m.0 Frozen (phase m.0 t) j frozen_not u).1)
await_step o t b (Thaw g) valid may old k f e =
    let m = old k f
    (opened_back g (group_of o k t) Open (phase (group_of o k t) t) f open_not e).1 in
    (m.0, m.1, m.2, λ j u. m.3 j (opened_back g m.0 Open (phase m.0 t) j open_not u).1)
await_step o t b (StoreOpened g i) valid may old k f e = await_opened o t b g i may old k f e
await_step o t b (NewGroup g low high i) valid may old k f e =
    await_new o t b g low high i valid may old k f e
await_step o t b (Install spot lead low high) valid may old k f e =
    await_install o t b spot lead low high may old k f e
await_step o t b d valid may old k f e = old k f e

pub new_groups_await : (o : Opening) (t : Execution) → Valid o t → NewGroupsAwait o t
new_groups_await o [] valid = λ k f e. open_not e
new_groups_await o (e ∷ t) valid =
    await_step o t e.by e.action valid.1 valid.0 (new_groups_await o t valid.1)

-- ---- places that are awaited ----

-- what a group has for a key whose new group it is belongs there
abbrev pub PlacesBelong : Opening → Execution → Type 0
PlacesBelong o t =
    (g k p : ℕ) → IsInGroup o t g k p → successor k t ≡ Some g → IsBufferFor o k g t

pub belongs_on : (o : Opening) (t : Execution) (b : ℕ) (d : Action) (g k : ℕ) → Allowed o t b d →
    successor k t ≡ Some g → successor k (event b d ∷ t) ≡ Some g →
    IsBufferFor o k g t → IsBufferFor o k g (event b d ∷ t)
belongs_on o t b (Install spot lead low high) g k may was now old = go (within low k high) refl
  where
    T : Execution
    T = event b (Install spot lead low high) ∷ t

    go : (w : Bool) → within low k high ≡ w → IsBufferFor o k g T
    go false z = let same : group_of o k T ≡ group_of o k t =
        ap (λ (i : Bool). cond i (or_else (successor k t) (group_of o k t)) (group_of o k t)) z in
        ⊎_elim (λ (w : group_of o k t ≡ g). inl (same ∙ w))
        (λ (w : (f : ℕ) × (phase (group_of o k t) t ≡ Opened f) × (successor k t ≡ Some g)).
        inr (w.0, ap (λ (i : ℕ). phase i t) same ∙ w.1, w.2)) old
    go true z = inl (
        ap (λ (i : Bool). cond i (or_else (successor k t) (group_of o k t)) (group_of o k t)) z
        ∙ ap (λ (i : Option ℕ). or_else i (group_of o k t)) was)
belongs_on o t b d g k may was now old = ⊎_elim
    (λ (w : group_of o k t ≡ g). inl w)
    (λ (w : (f : ℕ) × (phase (group_of o k t) t ≡ Opened f) × (successor k t ≡ Some g)).
    inr (w.0, chained_phase o t b d k w.0 may w.1, now)) old

belongs_step : (o : Opening) (t : Execution) (b : ℕ) (d : Action) → Allowed o t b d →
    PlacesBelong o t → PlacesBelong o (event b d ∷ t)
belongs_step o t b d may old g k p s e =
    let was = successor_back o t b d g k p may s e in
    belongs_on o t b d g k may was e (⊎_elim
    (λ (z : IsInGroup o t g k p). old g k p z was)
    (λ (y : (IsLinkOf g p k d × (kind (form o p (event b d ∷ t)) ≡ Direct))
    ⊎ ((to : ℕ) × (d ≡ StoreRedirect g p k to)
    × (kind (form o p (event b d ∷ t)) ≡ Forward))). ⊎_elim
    (λ (z : IsLinkOf g p k d × (kind (form o p (event b d ∷ t)) ≡ Direct)).
    let w = z.0 in
    let m = may_as o t b d (LinkRow g w.lane p w.change w.before w.next) w.is may in
    subst (λ (i : ℕ). IsBufferFor o i g t) w.key m.belongs)
    (λ (z : (to : ℕ) × (d ≡ StoreRedirect g p k to)
    × (kind (form o p (event b d ∷ t)) ≡ Forward)).
    let m = may_as o t b d (StoreRedirect g p k z.0) z.1 may in
    inr (m.opened.0, m.opened.1, was)) y)
    (in_group_back o t b d g k p s))

pub places_belong : (o : Opening) (t : Execution) → Valid o t → PlacesBelong o t
places_belong o [] valid = λ g k p s e. none_some e
places_belong o (e ∷ t) valid =
    belongs_step o t e.by e.action valid.0 (places_belong o t valid.1)
