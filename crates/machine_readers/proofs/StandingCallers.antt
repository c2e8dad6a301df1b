-- What a caller that stands in a group meets there for a key: the group is the key's, or its new
-- one, or the one before, and stays one of these.
use Rattle.std.proofs.Common.{◌≡◌, ◌≢◌, ℕ, ◌⊎◌, inl, inr, ⊎_elim, Option, Some, None, Bool, true}
use Rattle.std.proofs.Common.{false, [], ◌∷◌, ◌++◌, cond, refl, sym, ap, ◌∙◌, subst}
use Rattle.index_machine.proofs.OfParts.{opened_elsewhere, successor_of_part, stays_opened, stays_successor}
use Rattle.index_machine.proofs.Executions.{choice-other}
use Rattle.index_machine.specs.Conditions.{Allowed, Valid}
use Rattle.index_machine.specs.Execution.{Execution, event}
use Rattle.index_machine.specs.Groups.{phase, rebuild}
use Rattle.index_machine.specs.KeyRanges.{group_of, or_else, predecessor, remembered, successor}
use Rattle.index_machine.specs.KeyRanges.{unless_opened}
use Rattle.index_machine.specs.Openings.{within}
use Rattle.index_machine.specs.Permissions.{IsBufferFor}
use Rattle.index_machine.specs.Places.{IsInGroup, form}
use Rattle.index_machine.specs.Reaching.{stands_in}
use Rattle.index_machine.specs.Sections.{IsCaller, StaysInside}
use Rattle.index_machine.specs.declared.events.Action.{Action}
use Rattle.index_machine.specs.declared.events.Action.TheVariants.{Install, NewGroup}
use Rattle.index_machine.specs.declared.events.InstallWord.{InstallWord}
use Rattle.index_machine.specs.declared.opening.Opening.{Opening}
use Rattle.machine_barriers.proofs.OpenedGroups.{made_still, opened_groups_hold}
use Rattle.index_machine.proofs.Options.{none_some, some_is}
use Rattle.machine_readers.proofs.AwaitedGroups.{belongs_on}
use Rattle.machine_readers.proofs.CopiedPlaces.{copied_keys_have_left}
use Rattle.machine_readers.proofs.FormKinds.{Away, kind}
use Rattle.machine_readers.proofs.InstalledRedirects.{remembered_back}
use Rattle.machine_readers.proofs.ReadSections.{stands_in_on}
use Rattle.machine_readers.proofs.Redirects.{phase_stays}
use Rattle.word_layout.specs.declared.phase.Phase.{Phase}
use Rattle.word_layout.specs.declared.phase.Phase.TheVariants.{Opened}

-- ---- the group before ----

-- the group before was opened to the rebuild that made the group of the key
abbrev pub GroupsBeforeAreOpened : Opening → Execution → Type 0
GroupsBeforeAreOpened o t =
    (k g : ℕ) → predecessor o k t ≡ Some g →
    (f : ℕ) × (phase g t ≡ Opened f) × (rebuild (group_of o k t) t ≡ Some f)

before_install : (o : Opening) (t : Execution) (b : ℕ) (spot : InstallWord) (lead low high : ℕ) →
    Allowed o t b (Install spot lead low high) → GroupsBeforeAreOpened o t →
    GroupsBeforeAreOpened o (event b (Install spot lead low high) ∷ t)
before_install o t b spot lead low high may old k g e = go (within low k high) refl
  where
    T : Execution
    T = event b (Install spot lead low high) ∷ t

    go : (w : Bool) → within low k high ≡ w →
        (f : ℕ) × (phase g t ≡ Opened f) × (rebuild (group_of o k T) t ≡ Some f)
    go false z =
        let m = old k g
        (sym (ap (λ (i : Bool). cond i (Some (group_of o k t)) (predecessor o k t)) z) ∙ e) in
        let same : group_of o k T ≡ group_of o k t =
        ap (λ (i : Bool). cond i (or_else (successor k t) (group_of o k t)) (group_of o k t)) z in
        (m.0, m.1, ap (λ (i : ℕ). rebuild i t) same ∙ m.2)
    go true z =
        let m = may.opened k z in
        let was : group_of o k t ≡ g = some_is
        (sym (ap (λ (i : Bool). cond i (Some (group_of o k t)) (predecessor o k t)) z) ∙ e) in
        let now : group_of o k T ≡ m.1 =
        ap (λ (i : Bool). cond i (or_else (successor k t) (group_of o k t)) (group_of o k t)) z
        ∙ ap (λ (i : Option ℕ). or_else i (group_of o k t)) m.3 in
        (m.0, ap (λ (i : ℕ). phase i t) (sym was) ∙ m.2, ap (λ (i : ℕ). rebuild i t) now ∙ m.4)

before_new : (o : Opening) (t : Execution) (b n low high i : ℕ) →
    Allowed o t b (NewGroup n low high i) → GroupsBeforeAreOpened o t →
    GroupsBeforeAreOpened o (event b (NewGroup n low high i) ∷ t)
before_new o t b n low high i may old k g e =
    let w = remembered_back t b n low high i g (predecessor o k t) e in
    let m = old k g w.0 in (
      m.0,
      ⊎_elim (λ (z : phase g (event b (NewGroup n low high i) ∷ t) ≡ Opened m.0). z)
          (λ (z : (h : ℕ) × (x : ℕ) × (y : ℕ) × (j : ℕ)
          × (NewGroup n low high i ≡ NewGroup h x y j) × ((h ≡ g) ⊎ (h ≡ m.0))).
          absurd (w.1 m.0 m.1 z))
          (phase_stays o t b (NewGroup n low high i) g m.0 may m.1),
      made_still n (group_of o k t) (Some i) (rebuild (group_of o k t) t) m.0
          (λ z. may.gone.unowned k (sym z))
          (λ z. w.1 m.0 m.1 (n, low, high, i, refl, inr (sym z))) m.2,
    )

before_step : (o : Opening) (t : Execution) (b : ℕ) (d : Action) → Allowed o t b d →
    GroupsBeforeAreOpened o t → GroupsBeforeAreOpened o (event b d ∷ t)
before_step o t b (Install spot lead low high) may old k g e =
    before_install o t b spot lead low high may old k g e
before_step o t b (NewGroup n low high i) may old k g e =
    before_new o t b n low high i may old k g e
before_step o t b d may old k g e =
    let m = old k g e in (
      m.0,
      ⊎_elim (λ (z : phase g (event b d ∷ t) ≡ Opened m.0). z)
          (λ (z : (h : ℕ) × (x : ℕ) × (y : ℕ) × (j : ℕ) × (d ≡ NewGroup h x y j)
          × ((h ≡ g) ⊎ (h ≡ m.0))). let bad = z.4 in cc)
          (phase_stays o t b d g m.0 may m.1),
      m.2,
    )

pub groups_before_are_opened : (o : Opening) (t : Execution) → Valid o t →
    GroupsBeforeAreOpened o t
groups_before_are_opened o [] valid = λ k g e. none_some e
groups_before_are_opened o (e ∷ t) valid =
    before_step o t e.by e.action valid.0 (groups_before_are_opened o t valid.1)

-- ---- where a caller stands for a key ----

-- the group is the key's, or the new one of an opened group, or the one before
abbrev pub IsOfKey : Opening → ℕ → ℕ → Execution → Type 0
IsOfKey o k g t = IsBufferFor o k g t ⊎ (predecessor o k t ≡ Some g)

-- the group of a key, as another comes in its place
of_key_install : (o : Opening) (t : Execution) (b : ℕ) (spot : InstallWord)
    (lead low high c g k : ℕ) → Valid o t → Allowed o t b (Install spot lead low high) →
    IsCaller o c → stands_in c g t ≡ true → IsOfKey o k g t →
    IsOfKey o k g (event b (Install spot lead low high) ∷ t)
of_key_install o t b spot lead low high c g k valid may is s of =
    go (within low k high) refl of
  where
    T : Execution
    T = event b (Install spot lead low high) ∷ t

    before : (w : Bool) → within low k high ≡ w →
        predecessor o k T ≡ cond w (Some (group_of o k t)) (predecessor o k t)
    before w z = ap (λ (i : Bool). cond i (Some (group_of o k t)) (predecessor o k t)) z

    group : (w : Bool) → within low k high ≡ w →
        group_of o k T ≡ cond w (or_else (successor k t) (group_of o k t)) (group_of o k t)
    group w z =
        ap (λ (i : Bool). cond i (or_else (successor k t) (group_of o k t)) (group_of o k t)) z

    go : (w : Bool) → within low k high ≡ w → IsOfKey o k g t → IsOfKey o k g T
    go false z of = ⊎_elim
        (λ (x : IsBufferFor o k g t). ⊎_elim
        (λ (y : group_of o k t ≡ g). inl (inl (group false z ∙ y)))
        (λ (y : (f : ℕ) × (phase (group_of o k t) t ≡ Opened f) × (successor k t ≡ Some g)).
        inl (belongs_on o t b (Install spot lead low high) g k may y.2 y.2 x)) x)
        (λ (x : predecessor o k t ≡ Some g). inr (before false z ∙ x)) of
    go true z of = ⊎_elim
        (λ (x : IsBufferFor o k g t). ⊎_elim
        (λ (y : group_of o k t ≡ g). inr (before true z ∙ ap (λ (i : ℕ). Some i) y))
        (λ (y : (f : ℕ) × (phase (group_of o k t) t ≡ Opened f) × (successor k t ≡ Some g)).
        inl (belongs_on o t b (Install spot lead low high) g k may y.2 y.2 x)) x)
        (λ (x : predecessor o k t ≡ Some g).
        let m = may.opened k z in
        let p = groups_before_are_opened o t valid k g x in
        absurd (((opened_groups_hold o t valid).past (group_of o k t) m.0 g p.0 m.2 p.2 p.1).empty
        c is s)) of

-- as a group is begun anew
of_key_new : (o : Opening) (t : Execution) (b n low high i c g k : ℕ) → Valid o t →
    Allowed o t b (NewGroup n low high i) → IsCaller o c → stands_in c g t ≡ true →
    IsOfKey o k g t → IsOfKey o k g (event b (NewGroup n low high i) ∷ t)
of_key_new o t b n low high i c g k valid may is s of = ⊎_elim
    (λ (x : IsBufferFor o k g t). ⊎_elim
    (λ (y : group_of o k t ≡ g). inl (inl y))
    (λ (y : (f : ℕ) × (phase (group_of o k t) t ≡ Opened f) × (successor k t ≡ Some g)).
    let elsewhere = opened_elsewhere o t b n low high i valid may k y.0 y.1 in
    let same = successor_of_part o t k g valid y.2 in
    inl (inr (
      y.0,
      stays_opened o t b n low high i (group_of o k t) y.0 valid elsewhere y.1,
      stays_successor o t b n low high i k g valid may (λ w. elsewhere (sym same ∙ w)) y.2,
    ))) x)
    (λ (x : predecessor o k t ≡ Some g).
    let p = groups_before_are_opened o t valid k g x in
    let other : g ≢ n =
    λ z. may.gone.empty c is (subst (λ (j : ℕ). stands_in c j t ≡ true) z s) in
    let unlike : p.0 ≢ n =
    λ z. (may.replaced g (p.1 ∙ ap (λ (j : ℕ). Opened j) z)).empty c is s in
    inr (ap (remembered n (λ j. phase j t)) x
    ∙ (choice-other g n None (unless_opened n (phase g t) g) other
    ∙ (ap (λ (j : Phase). unless_opened n j g) p.1
    ∙ choice-other p.0 n None (Some g) unlike)))) of

of_key_step : (o : Opening) (t : Execution) (b : ℕ) (d : Action) (c g k : ℕ) → Valid o t →
    Allowed o t b d → IsCaller o c → stands_in c g t ≡ true → IsOfKey o k g t →
    IsOfKey o k g (event b d ∷ t)
of_key_step o t b (Install spot lead low high) c g k valid may is s of =
    of_key_install o t b spot lead low high c g k valid may is s of
of_key_step o t b (NewGroup n low high i) c g k valid may is s of =
    of_key_new o t b n low high i c g k valid may is s of
of_key_step o t b d c g k valid may is s of = ⊎_elim
    (λ (x : IsBufferFor o k g t). ⊎_elim
    (λ (y : group_of o k t ≡ g). inl (inl y))
    (λ (y : (f : ℕ) × (phase (group_of o k t) t ≡ Opened f) × (successor k t ≡ Some g)).
    inl (belongs_on o t b d g k may y.2 y.2 x)) x)
    (λ (x : predecessor o k t ≡ Some g). inr x) of

-- over all the steps of a read section
pub of_key_on : (o : Opening) (c g k : ℕ) → IsCaller o c → (n t : Execution) →
    Valid o (n ++ t) → StaysInside c n → stands_in c g t ≡ true → IsOfKey o k g t →
    IsOfKey o k g (n ++ t)
of_key_on o c g k is [] t valid stay s of = of
of_key_on o c g k is (e ∷ n) t valid stay s of =
    of_key_step o (n ++ t) e.by e.action c g k valid.1 valid.0 is (stands_in_on c g n t stay.1 s)
    (of_key_on o c g k is n t valid.1 stay.1 s of)

-- ---- no copied record ----

-- what belongs to a key was not copied away
pub not_away : (o : Opening) (t : Execution) (g k p : ℕ) → Valid o t → IsBufferFor o k g t →
    IsInGroup o t g k p → kind (form o p t) ≢ Away
not_away o t g k p valid of s e =
    let w = copied_keys_have_left o t valid g k p s e in
    ⊎_elim (λ (z : group_of o k t ≡ g). w.0 z)
    (λ (z : (f : ℕ) × (phase (group_of o k t) t ≡ Opened f) × (successor k t ≡ Some g)).
    w.1 z.2) of

-- nor what a caller meets
pub none_away : (o : Opening) (t : Execution) (c g k p : ℕ) → Valid o t → IsCaller o c →
    stands_in c g t ≡ true → IsOfKey o k g t → IsInGroup o t g k p → kind (form o p t) ≢ Away
none_away o t c g k p valid is s of there e = ⊎_elim
    (λ (z : IsBufferFor o k g t). not_away o t g k p valid z there e)
    (λ (z : predecessor o k t ≡ Some g).
    let w = (copied_keys_have_left o t valid g k p there e).2 z in
    (w.2 g w.1).empty c is s) of
