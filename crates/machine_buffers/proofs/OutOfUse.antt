-- A group that is out of use stays so until it is begun anew.
use Rattle.std.proofs.Common.{◌≡◌, ◌≢◌, ℕ, ◌⊎◌, inl, inr, ⊎_elim, Option, Some, Bool, true}
use Rattle.std.proofs.Common.{false, [], ◌∷◌, cond, refl, sym, ap, ◌∙◌, subst}
use Rattle.std.specs.Prelude.{◌==◌}
use mathlib.Core.Logic.{dite}
use native.Mathlib.Decide.{ℕ_discrete}
use Rattle.index_machine.proofs.Executions.{choice-other, choice-same}
use Rattle.index_machine.specs.Conditions.{Allowed, Valid}
use Rattle.index_machine.specs.Execution.{Execution, event}
use Rattle.index_machine.specs.Groups.{name_used_again, phase, rebuild, unless_named}
use Rattle.index_machine.specs.KeyRanges.{group_of, or_else, successor}
use Rattle.index_machine.specs.Openings.{within}
use Rattle.index_machine.specs.Permissions.{AreGone, IsReplaced}
use Rattle.index_machine.specs.declared.events.Action.{Action}
use Rattle.index_machine.specs.declared.events.Action.TheVariants.{Freeze, Install, NewGroup}
use Rattle.index_machine.specs.declared.events.Action.TheVariants.{StoreOpened, Thaw}
use Rattle.index_machine.specs.declared.events.InstallWord.{InstallWord}
use Rattle.index_machine.specs.declared.opening.Opening.{Opening}
use Rattle.machine_barriers.proofs.OpenedGroups.{begun_back, frozen_not, gone_on, open_not}
use Rattle.machine_barriers.proofs.OpenedGroups.{opened_back, opened_groups_hold}
use Rattle.machine_buffers.specs.Groups.{Begins, FrozenGroupsAnswer, IsOutOfUse}
use Rattle.machine_buffers.specs.Groups.{NewGroupsAreOpen, NewAreOpenOrChained, OpenedAreNotNew}
use Rattle.machine_buffers.specs.Groups.{OpenedGroupsAreNotNew}
use Rattle.index_machine.proofs.OfParts.{frozen_in_chain}
use Rattle.index_machine.proofs.Options.{named_before, none_some, some_is}
use Rattle.word_layout.specs.declared.phase.Phase.{Phase}
use Rattle.word_layout.specs.declared.phase.Phase.TheVariants.{Frozen, Open, Opened}

-- ---- how groups change ----

-- the group of a key after an install that has the key
pub group_in : (o : Opening) (t : Execution) (b : ℕ) (spot : InstallWord) (lead low high k h : ℕ) →
    within low k high ≡ true → successor k t ≡ Some h →
    group_of o k (event b (Install spot lead low high) ∷ t) ≡ h
group_in o t b spot lead low high k h is e =
    ap (λ (y : Bool). cond y (or_else (successor k t) (group_of o k t)) (group_of o k t)) is
    ∙ ap (λ (y : Option ℕ). or_else y (group_of o k t)) e

-- and after one that has not
pub group_out : (o : Opening) (t : Execution) (b : ℕ) (spot : InstallWord) (lead low high k : ℕ) →
    within low k high ≡ false →
    group_of o k (event b (Install spot lead low high) ∷ t) ≡ group_of o k t
group_out o t b spot lead low high k out =
    ap (λ (y : Bool). cond y (or_else (successor k t) (group_of o k t)) (group_of o k t)) out

-- the new group of a key after a group is begun anew: it is this one, or was the key's before
begun_for : (w : Bool) (h g : ℕ) (s : Option ℕ) → cond w (Some h) (unless_named h s) ≡ Some g →
    (h ≡ g) ⊎ ((g ≢ h) × (s ≡ Some g))
begun_for true h g s e = inl (some_is e)
begun_for false h g s e = inr (named_before h s g e)

-- an opened phase was so before, or the action opens the group
phase_back : (o : Opening) (t : Execution) (b : ℕ) (d : Action) (g f : ℕ) →
    phase g (event b d ∷ t) ≡ Opened f → (phase g t ≡ Opened f) ⊎ (d ≡ StoreOpened g f)
phase_back o t b (Freeze h) g f e = inl (opened_back h g Frozen (phase g t) f frozen_not e).1
phase_back o t b (Thaw h) g f e = inl (opened_back h g Open (phase g t) f open_not e).1
phase_back o t b (NewGroup h low high i) g f e = inl (begun_back h g (phase g t) f e).2
phase_back o t b (StoreOpened h i) g f e = dite (ℕ_discrete h g)
    (λ (z : h ≡ g).
    let now : Opened i ≡ Opened f = sym (choice-same h g (Opened i) (phase g t) z) ∙ e in
    let same : i ≡ f = cc in
    inr (ap (λ (y : ℕ). StoreOpened y i) z ∙ ap (λ (y : ℕ). StoreOpened g y) same))
    (λ (n : h ≢ g). inl (sym (choice-other h g (Opened i) (phase g t) n) ∙ e))
phase_back o t b d g f e = inl e

-- ---- frozen groups ----

open_frozen : {X : Type 0} → Open ≡ Frozen → X
open_frozen e = cc

pub frozen_are_chained : FrozenGroupsAnswer
frozen_are_chained o t valid = frozen_in_chain o t valid

-- ---- new groups ----

-- an open group stays open where no group is this one
await_phase : (h g : ℕ) (x y : Phase) → h ≢ g → y ≡ Open → cond (h == g) x y ≡ Open
await_phase h g x y n e = choice-other h g x y n ∙ e

await_step : (o : Opening) (t : Execution) (b : ℕ) (d : Action) → Allowed o t b d →
    NewAreOpenOrChained o t → NewAreOpenOrChained o (event b d ∷ t)
await_step o t b (Freeze h) may old k g e = ⊎_elim
    (λ (z : group_of o k t ≡ g). inl z)
    (λ (z : ((j : ℕ) → group_of o j t ≢ g) × (phase g t ≡ Open)).
    inr (
      z.0,
      await_phase h g Frozen (phase g t)
          (λ is. let c = may.chained in z.0 c.0 (c.1 ∙ is)) z.1,
    ))
    (old k g e)
await_step o t b (Thaw h) may old k g e = ⊎_elim
    (λ (z : group_of o k t ≡ g). inl z)
    (λ (z : ((j : ℕ) → group_of o j t ≢ g) × (phase g t ≡ Open)).
    inr (
      z.0,
      dite (ℕ_discrete h g)
          (λ (is : h ≡ g). choice-same h g Open (phase g t) is)
          (λ (n : h ≢ g). await_phase h g Open (phase g t) n z.1),
    ))
    (old k g e)
await_step o t b (StoreOpened h f) may old k g e = ⊎_elim
    (λ (z : group_of o k t ≡ g). inl z)
    (λ (z : ((j : ℕ) → group_of o j t ≢ g) × (phase g t ≡ Open)).
    inr (
      z.0,
      await_phase h g (Opened f) (phase g t)
          (λ is. open_frozen (sym z.1 ∙ (ap (λ (y : ℕ). phase y t) (sym is) ∙ may.frozen))) z.1,
    ))
    (old k g e)
await_step o t b (NewGroup h low high f) may old k g e = ⊎_elim
    (λ (z : h ≡ g). inr (
      (λ j is. may.gone.unowned j (is ∙ sym z)),
      choice-same h g Open (name_used_again h (phase g t)) z,
    ))
    (λ (z : (g ≢ h) × (successor k t ≡ Some g)). ⊎_elim
    (λ (y : group_of o k t ≡ g). inl y)
    (λ (y : ((j : ℕ) → group_of o j t ≢ g) × (phase g t ≡ Open)).
    inr (
      y.0,
      await_phase h g Open (name_used_again h (phase g t)) (λ is. z.0 (sym is))
          (ap (name_used_again h) y.1),
    ))
    (old k g z.1))
    (begun_for (within low k high) h g (successor k t) e)
await_step o t b (Install spot lead low high) may old k g e = go (within low k high) refl
  where
    T : Execution
    T = event b (Install spot lead low high) ∷ t

    -- a group that another key awaits outside the range is not taken in
    unowned : within low k high ≡ false → ((j : ℕ) → group_of o j t ≢ g) → (j : ℕ) →
        (w : Bool) → within low j high ≡ w → group_of o j T ≢ g
    unowned out none j false away z = none j (sym (group_out o t b spot lead low high j away) ∙ z)
    unowned out none j true here z =
        let m = may.opened j here in
        let same : m.1 ≡ g = sym (group_in o t b spot lead low high j m.1 here m.3) ∙ z in
        let made : rebuild g t ≡ Some m.0 =
        subst (λ (y : ℕ). rebuild y t ≡ Some m.0) same m.4 in
        let both : within low k high ≡ true =
        may.all_new j k m.0 m.1 g here m.3 m.4 e made in
        let bad = sym out ∙ both in cc

    go : (w : Bool) → within low k high ≡ w →
        (group_of o k T ≡ g) ⊎ (((j : ℕ) → group_of o j T ≢ g) × (phase g t ≡ Open))
    go true here = inl (group_in o t b spot lead low high k g here e)
    go false out = ⊎_elim
        (λ (z : group_of o k t ≡ g). inl (group_out o t b spot lead low high k out ∙ z))
        (λ (z : ((j : ℕ) → group_of o j t ≢ g) × (phase g t ≡ Open)).
        inr ((λ j. unowned out z.0 j (within low j high) refl), z.1))
        (old k g e)
await_step o t b d may old k g e = old k g e

pub new_groups_await : NewGroupsAreOpen
new_groups_await o [] valid = λ k g e. none_some e
new_groups_await o (e ∷ t) valid =
    await_step o t e.by e.action valid.0 (new_groups_await o t valid.1)

not_new_step : (o : Opening) (t : Execution) (b : ℕ) (d : Action) → Allowed o t b d →
    NewAreOpenOrChained o t → OpenedAreNotNew o t → OpenedAreNotNew o (event b d ∷ t)
not_new_step o t b (Freeze h) may await old k g f e s =
    old k g f (opened_back h g Frozen (phase g t) f frozen_not e).1 s
not_new_step o t b (Thaw h) may await old k g f e s =
    old k g f (opened_back h g Open (phase g t) f open_not e).1 s
not_new_step o t b (NewGroup h low high i) may await old k g f e s =
    let w = begun_back h g (phase g t) f e in
    ⊎_elim (λ (z : h ≡ g). w.0 z)
    (λ (z : (g ≢ h) × (successor k t ≡ Some g)). old k g f w.2 z.1)
    (begun_for (within low k high) h g (successor k t) s)
not_new_step o t b (StoreOpened h i) may await old k g f e s = dite (ℕ_discrete h g)
    (λ (z : h ≡ g). ⊎_elim
    (λ (y : group_of o k t ≡ g). let m = may.planned k (y ∙ sym z) in
    let same : m.0 ≡ g = some_is (sym m.1 ∙ s) in
    open_frozen (sym (may.fresh m.0 m.2)
    ∙ (ap (λ (x : ℕ). phase x t) (same ∙ sym z) ∙ may.frozen)))
    (λ (y : ((j : ℕ) → group_of o j t ≢ g) × (phase g t ≡ Open)).
    open_frozen (sym y.1 ∙ (ap (λ (x : ℕ). phase x t) (sym z) ∙ may.frozen)))
    (await k g s))
    (λ (n : h ≢ g). old k g f (sym (choice-other h g (Opened i) (phase g t) n) ∙ e) s)
not_new_step o t b d may await old k g f e s = old k g f e s

pub opened_are_not_new : OpenedGroupsAreNotNew
opened_are_not_new o [] valid = λ k g f e s. open_not e
opened_are_not_new o (e ∷ t) valid =
    not_new_step o t e.by e.action valid.0 (new_groups_await o t valid.1)
    (opened_are_not_new o t valid.1)

-- ---- groups out of use ----

-- what was replaced is out of use
pub replaced_out : (o : Opening) (t : Execution) (g : ℕ) → Valid o t → IsReplaced o g t →
    IsOutOfUse o g t
replaced_out o t g valid r = record {
  unowned = (r.2 g r.1).unowned;
  unawaited = λ k. opened_are_not_new o t valid k g r.0 r.1;
  settled = λ f e. let same : Opened r.0 ≡ Opened f = sym r.1 ∙ e in
      let is : r.0 ≡ f = cc in subst (λ (y : ℕ). AreGone o y t) is r.2;
}

-- the groups opened to the rebuild of a group out of use stay gone
settled_on : (o : Opening) (t : Execution) (b : ℕ) (d : Action) (g f : ℕ) → Valid o t →
    Allowed o t b d → IsOutOfUse o g t → phase g (event b d ∷ t) ≡ Opened f →
    AreGone o f (event b d ∷ t)
settled_on o t b d g f valid may out at h then = ⊎_elim
    (λ (x : phase g t ≡ Opened f). ⊎_elim
    (λ (y : phase h t ≡ Opened f).
    gone_on o t b d may (opened_groups_hold o t valid) h f y (out.settled f x))
    (λ (y : d ≡ StoreOpened h f).
    let m = subst (λ (z : Action). Allowed o t b z) y may in
    let c = m.siblings g x in absurd (out.unowned c.0 c.1))
    (phase_back o t b d h f then))
    (λ (x : d ≡ StoreOpened g f).
    let m = subst (λ (z : Action). Allowed o t b z) x may in
    let c = frozen_are_chained o t valid g m.frozen in absurd (out.unowned c.0 c.1))
    (phase_back o t b d g f at)

unowned_on : (o : Opening) (t : Execution) (b : ℕ) (d : Action) (g : ℕ) → Allowed o t b d →
    IsOutOfUse o g t → (k : ℕ) → group_of o k (event b d ∷ t) ≢ g
unowned_on o t b (Install spot lead low high) g may out k z = go (within low k high) refl
  where
    go : (w : Bool) → within low k high ≡ w → ⊥
    go false away = out.unowned k (sym (group_out o t b spot lead low high k away) ∙ z)
    go true here = let m = may.opened k here in
        out.unawaited k (m.3 ∙ ap Some
        (sym (group_in o t b spot lead low high k m.1 here m.3) ∙ z))
unowned_on o t b d g may out k z = out.unowned k z

unawaited_on : (o : Opening) (t : Execution) (b : ℕ) (d : Action) (g : ℕ) →
    IsOutOfUse o g t → (k : ℕ) → successor k (event b d ∷ t) ≡ Some g → Begins g d
unawaited_on o t b (NewGroup h low high f) g out k e = ⊎_elim
    (λ (z : h ≡ g). (low, high, f, ap (λ (y : ℕ). NewGroup y low high f) z))
    (λ (z : (g ≢ h) × (successor k t ≡ Some g)). absurd (out.unawaited k z.1))
    (begun_for (within low k high) h g (successor k t) e)
unawaited_on o t b d g out k e = absurd (out.unawaited k e)

-- it stays out of use until it is begun anew
pub out_on : (o : Opening) (t : Execution) (b : ℕ) (d : Action) (g : ℕ) → Valid o t →
    Allowed o t b d → IsOutOfUse o g t → (Begins g d → ⊥) → IsOutOfUse o g (event b d ∷ t)
out_on o t b d g valid may out never = record {
  unowned = unowned_on o t b d g may out;
  unawaited = λ k e. never (unawaited_on o t b d g out k e);
  settled = λ f e. settled_on o t b d g f valid may out e;
}

-- whether an action begins the group
pub begins_or_not : (g : ℕ) (d : Action) → Begins g d ⊎ (Begins g d → ⊥)
begins_or_not g (NewGroup h low high f) = dite (ℕ_discrete h g)
    (λ (z : h ≡ g). inl (low, high, f, ap (λ (y : ℕ). NewGroup y low high f) z))
    (λ (n : h ≢ g). inr (λ s. n (named s.3)))
  where
    named : {x y z : ℕ} → NewGroup h low high f ≡ NewGroup g x y z → h ≡ g
    named e = cc
begins_or_not g d = inr (λ s. let bad = s.3 in cc)
