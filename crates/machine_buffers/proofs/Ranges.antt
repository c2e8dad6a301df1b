-- Each row is of a key in its group's range, until the group is out of use.
use Rattle.std.proofs.Common.{◌≡◌, ◌≢◌, ℕ, ◌⊎◌, inl, inr, ⊎_elim, Some, None, Bool, true, false}
use Rattle.std.proofs.Common.{[], ◌∷◌, cond, refl, sym, ap, ◌∙◌, subst}
use mathlib.Core.Logic.{dite}
use native.Mathlib.Decide.{ℕ_discrete}
use Rattle.index_machine.proofs.OfParts.{opened_elsewhere, successor_of_part, stays_opened, stays_successor}
use Rattle.index_machine.proofs.Executions.{choice-other}
use Rattle.index_machine.proofs.OpeningRows.{opening_role-buffer}
use Rattle.index_machine.specs.Conditions.{Allowed, Valid}
use Rattle.index_machine.specs.Execution.{Execution, event}
use Rattle.index_machine.specs.Groups.{phase}
use Rattle.index_machine.specs.KeyRanges.{group_of, or_else, predecessor, remembered, successor}
use Rattle.index_machine.specs.KeyRanges.{unless_opened}
use Rattle.index_machine.specs.Openings.{within}
use Rattle.index_machine.specs.Permissions.{IsBufferFor, IsReplaced}
use Rattle.index_machine.specs.Rows.{InBuffer, role}
use Rattle.index_machine.specs.declared.events.Action.{Action}
use Rattle.index_machine.specs.declared.events.Action.TheVariants.{Install, LinkRow, NewGroup}
use Rattle.index_machine.specs.declared.events.InstallWord.{InstallWord}
use Rattle.index_machine.specs.declared.opening.Opening.{Opening}
use Rattle.machine_barriers.proofs.OpenedGroups.{opened_groups_hold}
use Rattle.machine_barriers.proofs.Reaches.{may_as}
use Rattle.machine_buffers.proofs.OutOfUse.{begins_or_not, group_in, group_out, new_groups_await}
use Rattle.machine_buffers.proofs.OutOfUse.{out_on, replaced_out}
use Rattle.machine_buffers.specs.Groups.{Begins, IsKeyOf, IsOutOfUse}
use Rattle.machine_buffers.specs.Walks.{RowsHaveKeysOfTheirGroup, RowsOfTheChainAreInRange}
use Rattle.machine_readers.proofs.InstalledRedirects.{remembered_back}
use Rattle.index_machine.proofs.Options.{none_some, some_is}
use Rattle.machine_readers.proofs.AwaitedGroups.{belongs_on}
use Rattle.machine_readers.proofs.Roles.{IsLinkOf, row_back}
use Rattle.machine_readers.proofs.StandingCallers.{groups_before_are_opened}
use Rattle.word_layout.specs.declared.phase.Phase.{Phase}
use Rattle.word_layout.specs.declared.phase.Phase.TheVariants.{Open, Opened}

-- the key is in the group's range, or the group is out of use
abbrev pub IsKept : Opening → ℕ → ℕ → Execution → Type 0
IsKept o g k t = IsKeyOf o g k t ⊎ IsOutOfUse o g t

-- the group of a key, as another comes in its place
pub kept_install : (o : Opening) (t : Execution) (b : ℕ) (spot : InstallWord) (lead low high g k : ℕ) →
    Valid o t → Allowed o t b (Install spot lead low high) → IsKeyOf o g k t →
    IsKept o g k (event b (Install spot lead low high) ∷ t)
kept_install o t b spot lead low high g k valid may of = go (within low k high) refl of
  where
    T : Execution
    T = event b (Install spot lead low high) ∷ t

    before : (w : Bool) → within low k high ≡ w →
        predecessor o k T ≡ cond w (Some (group_of o k t)) (predecessor o k t)
    before w z = ap (λ (i : Bool). cond i (Some (group_of o k t)) (predecessor o k t)) z

    group : (w : Bool) → within low k high ≡ w →
        group_of o k T ≡ cond w (or_else (successor k t) (group_of o k t)) (group_of o k t)
    group w z =
        ap (λ (i : Bool). cond i (or_else (successor k t) (group_of o k t)) (group_of o k t)) z

    -- the one before the old group is out of use by then
    was_replaced : within low k high ≡ true → predecessor o k t ≡ Some g → IsReplaced o g t
    was_replaced z x =
        let m = may.opened k z in
        let p = groups_before_are_opened o t valid k g x in (
          p.0,
          p.1,
          λ h e. (opened_groups_hold o t valid).past (group_of o k t) m.0 h p.0 m.2 p.2 e,
        )

    go : (w : Bool) → within low k high ≡ w → IsKeyOf o g k t → IsKept o g k T
    go false z of = ⊎_elim
        (λ (x : IsBufferFor o k g t). ⊎_elim
        (λ (y : group_of o k t ≡ g). inl (inl (inl (group false z ∙ y))))
        (λ (y : (f : ℕ) × (phase (group_of o k t) t ≡ Opened f) × (successor k t ≡ Some g)).
        inl (inl (belongs_on o t b (Install spot lead low high) g k may y.2 y.2 x))) x)
        (λ (x : predecessor o k t ≡ Some g). inl (inr (before false z ∙ x))) of
    go true z of = ⊎_elim
        (λ (x : IsBufferFor o k g t). ⊎_elim
        (λ (y : group_of o k t ≡ g). inl (inr (before true z ∙ ap (λ (i : ℕ). Some i) y)))
        (λ (y : (f : ℕ) × (phase (group_of o k t) t ≡ Opened f) × (successor k t ≡ Some g)).
        inl (inl (belongs_on o t b (Install spot lead low high) g k may y.2 y.2 x))) x)
        (λ (x : predecessor o k t ≡ Some g). inr (out_on o t b (Install spot lead low high) g valid may
        (replaced_out o t g valid (was_replaced z x)) (λ s. let bad = s.3 in cc))) of

-- as another group is begun anew
pub kept_new : (o : Opening) (t : Execution) (b n low high i g k : ℕ) → Valid o t →
    Allowed o t b (NewGroup n low high i) → g ≢ n → IsKeyOf o g k t →
    IsKept o g k (event b (NewGroup n low high i) ∷ t)
kept_new o t b n low high i g k valid may other of = ⊎_elim
    (λ (x : IsBufferFor o k g t). ⊎_elim
    (λ (y : group_of o k t ≡ g). inl (inl (inl y)))
    (λ (y : (f : ℕ) × (phase (group_of o k t) t ≡ Opened f) × (successor k t ≡ Some g)).
    let elsewhere = opened_elsewhere o t b n low high i valid may k y.0 y.1 in
    let same = successor_of_part o t k g valid y.2 in
    inl (inl (inr (
      y.0,
      stays_opened o t b n low high i (group_of o k t) y.0 valid elsewhere y.1,
      stays_successor o t b n low high i k g valid may (λ w. elsewhere (sym same ∙ w)) y.2,
    )))) x)
    (λ (x : predecessor o k t ≡ Some g).
    let p = groups_before_are_opened o t valid k g x in
    dite (ℕ_discrete p.0 n)
    (λ (z : p.0 ≡ n).
    let gone : IsReplaced o g t = (n, p.1 ∙ ap (λ (j : ℕ). Opened j) z, may.replaced) in
    inr (out_on o t b (NewGroup n low high i) g valid may (replaced_out o t g valid gone)
    (λ s. other (sym (begun s.3)))))
    (λ (unlike : p.0 ≢ n). inl (inr (ap (remembered n (λ j. phase j t)) x
    ∙ (choice-other g n None (unless_opened n (phase g t) g) other
    ∙ (ap (λ (j : Phase). unless_opened n j g) p.1
    ∙ choice-other p.0 n None (Some g) unlike)))))) of
  where
    begun : {x y z : ℕ} → NewGroup n low high i ≡ NewGroup g x y z → n ≡ g
    begun e = cc

-- a row that was there is of a key in range still
kept_step : (o : Opening) (t : Execution) (b : ℕ) (d : Action) (g k q : ℕ) → Valid o t →
    Allowed o t b d → role o q t ≡ InBuffer g k → IsKeyOf o g k t →
    IsKept o g k (event b d ∷ t)
kept_step o t b (Install spot lead low high) g k q valid may e of =
    kept_install o t b spot lead low high g k valid may of
kept_step o t b (NewGroup n low high i) g k q valid may e of =
    kept_new o t b n low high i g k valid may
    (λ z. may.no_row q k (e ∙ ap (λ (y : ℕ). InBuffer y k) z)) of
kept_step o t b d g k q valid may e of = ⊎_elim
    (λ (x : IsBufferFor o k g t). ⊎_elim
    (λ (y : group_of o k t ≡ g). inl (inl (inl y)))
    (λ (y : (f : ℕ) × (phase (group_of o k t) t ≡ Opened f) × (successor k t ≡ Some g)).
    inl (inl (belongs_on o t b d g k may y.2 y.2 x))) x)
    (λ (x : predecessor o k t ≡ Some g). inl (inr x)) of

-- so is one that is linked
linked_in_range : (o : Opening) (t : Execution) (b g q k : ℕ) (d : Action) → Allowed o t b d →
    IsLinkOf g q k d → IsKeyOf o g k (event b d ∷ t)
linked_in_range o t b g q k d may is =
    let link : Action = LinkRow g is.lane q is.change is.before is.next in
    subst (λ (x : Action). IsKeyOf o g k (event b x ∷ t)) (sym is.is)
    (subst (λ (j : ℕ). IsKeyOf o g j (event b link ∷ t)) is.key
    (inl (may_as o t b d (LinkRow g is.lane q is.change is.before is.next) is.is may).belongs))

pub in_range : RowsHaveKeysOfTheirGroup
in_range o [] valid g k q e = absurd (opening_role-buffer o q g k e)
in_range o (x ∷ t) valid g k q e = ⊎_elim
    (λ (there : role o q t ≡ InBuffer g k). ⊎_elim
    (λ (of : IsKeyOf o g k t). kept_step o t x.by x.action g k q valid.1 valid.0 there of)
    (λ (out : IsOutOfUse o g t). ⊎_elim
    (λ (z : Begins g x.action).
    absurd ((may_as o t x.by x.action (NewGroup g z.0 z.1 z.2) z.3 valid.0).no_row q k there))
    (λ (never : Begins g x.action → ⊥). inr (out_on o t x.by x.action g valid.1 valid.0 out never))
    (begins_or_not g x.action))
    (in_range o t valid.1 g k q there))
    (λ (is : IsLinkOf g q k x.action). inl (linked_in_range o t x.by g q k x.action valid.0 is))
    (row_back o t x.by x.action q g k e)

-- ---- groups in the chain ----

-- the group before answers for no key any more
abbrev pub GroupsBeforeAreUnowned : Opening → Execution → Type 0
GroupsBeforeAreUnowned o t =
    (k g : ℕ) → predecessor o k t ≡ Some g → (j : ℕ) → group_of o j t ≢ g

opened_open : {X : Type 0} {f : ℕ} → Opened f ≡ Open → X
opened_open e = cc

unowned_install : (o : Opening) (t : Execution) (b : ℕ) (spot : InstallWord) (lead low high : ℕ) →
    Valid o t → Allowed o t b (Install spot lead low high) → GroupsBeforeAreUnowned o t →
    GroupsBeforeAreUnowned o (event b (Install spot lead low high) ∷ t)
unowned_install o t b spot lead low high valid may old k g e j z =
    at (within low k high) refl (within low j high) refl
  where
    T : Execution
    T = event b (Install spot lead low high) ∷ t

    -- a group that comes into the chain is open
    new_one : within low j high ≡ true → (f : ℕ) → phase g t ≡ Opened f → ⊥
    new_one here f opened =
        let m = may.opened j here in
        let same : m.1 ≡ g = sym (group_in o t b spot lead low high j m.1 here m.3) ∙ z in
        opened_open (sym opened ∙ (ap (λ (y : ℕ). phase y t) (sym same) ∙ m.5))

    before : (w : Bool) → within low k high ≡ w →
        cond w (Some (group_of o k t)) (predecessor o k t) ≡ Some g
    before w x =
        sym (ap (λ (i : Bool). cond i (Some (group_of o k t)) (predecessor o k t)) x) ∙ e

    at : (w : Bool) → within low k high ≡ w → (v : Bool) → within low j high ≡ v → ⊥
    at false x false y =
        old k g (before false x) j (sym (group_out o t b spot lead low high j y) ∙ z)
    at false x true y =
        let p = groups_before_are_opened o t valid k g (before false x) in new_one y p.0 p.1
    at true x true y =
        let m = may.opened k x in
        new_one y m.0 (ap (λ (i : ℕ). phase i t) (sym (some_is (before true x))) ∙ m.2)
    at true x false y =
        let both = may.whole j k (sym (group_out o t b spot lead low high j y)
        ∙ (z ∙ sym (some_is (before true x)))) in
        let bad : false ≡ true = sym y ∙ (both ∙ x) in cc

unowned_step : (o : Opening) (t : Execution) (b : ℕ) (d : Action) → Valid o t → Allowed o t b d →
    GroupsBeforeAreUnowned o t → GroupsBeforeAreUnowned o (event b d ∷ t)
unowned_step o t b (Install spot lead low high) valid may old k g e j z =
    unowned_install o t b spot lead low high valid may old k g e j z
unowned_step o t b (NewGroup n low high i) valid may old k g e j z =
    old k g (remembered_back t b n low high i g (predecessor o k t) e).0 j z
unowned_step o t b d valid may old k g e j z = old k g e j z

groups_before_are_unowned : (o : Opening) (t : Execution) → Valid o t → GroupsBeforeAreUnowned o t
groups_before_are_unowned o [] valid = λ k g e. none_some e
groups_before_are_unowned o (e ∷ t) valid =
    unowned_step o t e.by e.action valid.1 valid.0 (groups_before_are_unowned o t valid.1)

pub in_stretch : RowsOfTheChainAreInRange
in_stretch o t valid g j k q own e = ⊎_elim
    (λ (of : IsKeyOf o g k t). ⊎_elim
    (λ (x : IsBufferFor o k g t). ⊎_elim
    (λ (y : group_of o k t ≡ g). y)
    (λ (y : (f : ℕ) × (phase (group_of o k t) t ≡ Opened f) × (successor k t ≡ Some g)).
    ⊎_elim (λ (z : group_of o k t ≡ g). z)
    (λ (z : ((i : ℕ) → group_of o i t ≢ g) × (phase g t ≡ Open)). absurd (z.0 j own))
    (new_groups_await o t valid k g y.2)) x)
    (λ (x : predecessor o k t ≡ Some g).
    absurd (groups_before_are_unowned o t valid k g x j own)) of)
    (λ (out : IsOutOfUse o g t). absurd (out.unowned j own))
    (in_range o t valid g k q e)
