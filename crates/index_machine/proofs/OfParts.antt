-- What is of a part stays in it: the groups of its keys, its new groups and its rebuilds.
use Rattle.std.proofs.Common.{None, ◌≡◌, ◌≢◌, ◌⊎◌, inl, inr, ⊎_elim, ℕ, ◌<◌, ◌≤◌, Bool, true, false, Option, Some, cond}
use Rattle.std.proofs.Common.{[], ◌∷◌, refl, sym, ap, ◌∙◌, subst, arith}
use Rattle.std.specs.Prelude.{◌==◌}
use mathlib.Core.Logic.{dite}
use native.Mathlib.Decide.{ℕ_discrete}
use Rattle.std.proofs.lemmas.Bool.{cases_lt}
use Rattle.word_layout.specs.declared.phase.Phase.{Phase}
use Rattle.word_layout.specs.declared.phase.Phase.TheVariants.{Open, Frozen, Opened}
use Rattle.word_layout.specs.Parts.{greatest_key, part_with}
use Rattle.word_layout.specs.Shape.{group_total}
use Rattle.word_layout.proofs.PartGroups.{part_with-key, part_with-has, key-greatest}
use Rattle.word_layout.proofs.PartGroups.{group-part}
use Rattle.index_machine.specs.declared.events.Action.{Action}
use Rattle.index_machine.specs.declared.events.Action.TheVariants.{Freeze, Thaw, NewGroup, StoreOpened, Install}
use Rattle.index_machine.specs.declared.opening.Opening.{Opening}
use Rattle.index_machine.specs.Execution.{Execution, event}
use Rattle.index_machine.specs.Words.{shape}
use Rattle.index_machine.specs.Openings.{within}
use Rattle.index_machine.specs.Keepers.{IsPart, part_of, IsKeyIn}
use Rattle.index_machine.specs.Groups.{phase, rebuild, unless_named, name_used_again}
use Rattle.index_machine.specs.KeyRanges.{group_of, successor, or_else, predecessor, remembered, unless_opened}
use Rattle.index_machine.specs.Sections.{IsHand}
use Rattle.index_machine.specs.declared.events.InstallWord.{InstallWord}
use Rattle.word_layout.proofs.PartGroups.{part_with-within}
use Rattle.index_machine.specs.RebuildConditions.{MayBegin, MayInstall, part_of_spot}
use Rattle.index_machine.specs.Conditions.{Allowed, Valid}
use Rattle.index_machine.proofs.Executions.{choice-same, choice-other}
use Rattle.index_machine.proofs.OpeningPlan.{opening_group-beyond, opening_group-exists, opening_group-part}
use Rattle.index_machine.proofs.Options.{some_is, none_some, named_before, still_named}
use Rattle.index_machine.proofs.Ranges.{in_range}

-- ---- new groups ----

-- a new group is of the part of each of its keys
abbrev pub SuccessorsInPart : Opening → Execution → Type 0
SuccessorsInPart o t = (k h : ℕ) → successor k t ≡ Some h → (IsKeyIn o (part_of o h) k) × (h < group_total (shape o))

pub key_between : (o : Opening) (part low high k : ℕ) → IsKeyIn o part low → IsKeyIn o part high →
    low ≤ k → k ≤ high → IsKeyIn o part k
key_between o part low high k first last above below =
    record { from = omega (arith, first.from); to = omega (arith, last.to) }

successor_step : (o : Opening) (t : Execution) (by : ℕ) (action : Action) → Allowed o t by action →
    SuccessorsInPart o t → SuccessorsInPart o (event by action ∷ t)
successor_step o t by (NewGroup g low high first) may old k h e = go (within low k high) refl e
  where
    go : (b : Bool) → within low k high ≡ b →
        cond b (Some g) (unless_named g (successor k t)) ≡ Some h →
        (IsKeyIn o (part_of o h) k) × (h < group_total (shape o))
    go true inside e =
        let range = in_range low high k inside in
        let same : g ≡ h = some_is e in (
          subst (λ (n : ℕ). IsKeyIn o (part_of o n) k) same
              (key_between o (part_of o g) low high k may.in_part.0 may.in_part.1 range.0 range.1),
          subst (λ (n : ℕ). n < group_total (shape o)) same may.exists,
        )
    go false outside e = old k h (named_before g (successor k t) h e).1
successor_step o t by action may old k h e = old k h e

successors : (o : Opening) (t : Execution) → Valid o t → SuccessorsInPart o t
successors o [] valid k h e = none_some e
successors o (e ∷ t) valid k h is =
    successor_step o t e.by e.action valid.0 (successors o t valid.1) k h is

pub successor_in_part : (o : Opening) (t : Execution) (k h : ℕ) → Valid o t → successor k t ≡ Some h →
    IsKeyIn o (part_of o h) k
successor_in_part o t k h valid e = (successors o t valid k h e).0

pub successor_exists : (o : Opening) (t : Execution) (k h : ℕ) → Valid o t → successor k t ≡ Some h →
    h < group_total (shape o)
successor_exists o t k h valid e = (successors o t valid k h e).1

-- ---- groups of keys ----

-- no part has what is no key
pub key_most : (o : Opening) (part k : ℕ) → IsKeyIn o part k → k ≤ greatest_key
key_most o part k is = key-greatest (shape o).bounds part k o.layout.cut is

-- a key of two parts would make them one
pub one_part : (o : Opening) (part other k : ℕ) → IsPart o part → IsPart o other → IsKeyIn o part k →
    IsKeyIn o other k → part ≡ other
one_part o part other k is_part is_other mine theirs =
    sym (part_with-key (shape o).bounds part k o.layout.cut is_part mine)
    ∙ part_with-key (shape o).bounds other k o.layout.cut is_other theirs

-- the group of a key is one of the table and of the key's part; what is no key has the number behind the last
abbrev pub GroupsInPart : Opening → Execution → Type 0
GroupsInPart o t = (k : ℕ) →
    ((k ≤ greatest_key) × (group_of o k t < group_total (shape o))
    × (part_of o (group_of o k t) ≡ part_with (shape o).bounds k))
    ⊎ ((greatest_key < k) × (group_of o k t ≡ group_total (shape o)))

groups_step : (o : Opening) (t : Execution) (by : ℕ) (action : Action) → Valid o t →
    Allowed o t by action → GroupsInPart o t → GroupsInPart o (event by action ∷ t)
groups_step o t by (Install spot lead low high) valid may old k = go (within low k high) refl
  where
    go : (b : Bool) → within low k high ≡ b →
        ((k ≤ greatest_key) × (cond b (or_else (successor k t) (group_of o k t)) (group_of o k t) < group_total (shape o))
        × (part_of o (cond b (or_else (successor k t) (group_of o k t)) (group_of o k t)) ≡ part_with (shape o).bounds k))
        ⊎ ((greatest_key < k) × (cond b (or_else (successor k t) (group_of o k t)) (group_of o k t) ≡ group_total (shape o)))
    go true inside =
        let m = may.opened k inside in
        let h : ℕ = m.1 in
        let is = successors o t valid k h m.3 in
        let part = group-part (shape o) h is.1 in
        let same : h ≡ or_else (successor k t) (group_of o k t) =
        sym (ap (λ (s : Option ℕ). or_else s (group_of o k t)) m.3)
        in
        inl (
          key_most o (part_of o h) k is.0,
          subst (λ (n : ℕ). n < group_total (shape o)) same is.1,
          ap (part_of o) (sym same)
              ∙ sym (part_with-key (shape o).bounds (part_of o h) k o.layout.cut part is.0),
        )
    go false outside = old k
groups_step o t by action valid may old k = old k

groups : (o : Opening) (t : Execution) → Valid o t → GroupsInPart o t
groups o [] valid k =
    ⊎_elim
    (λ (large : greatest_key < k). inr (large, opening_group-beyond o k large))
    (λ (small : k ≤ greatest_key).
    inl (small, opening_group-exists o k small, opening_group-part o k small))
    (cases_lt greatest_key k)
groups o (e ∷ t) valid k = groups_step o t e.by e.action valid.1 valid.0 (groups o t valid.1) k

-- the group of a key of a part is of the part
pub group_in_part : (o : Opening) (t : Execution) (part k : ℕ) → Valid o t → IsPart o part →
    IsKeyIn o part k → part_of o (group_of o k t) ≡ part
group_in_part o t part k valid is_part is =
    ⊎_elim
    (λ (z : (k ≤ greatest_key) × (group_of o k t < group_total (shape o))
    × (part_of o (group_of o k t) ≡ part_with (shape o).bounds k)).
    z.2 ∙ part_with-key (shape o).bounds part k o.layout.cut is_part is)
    (λ (z : (greatest_key < k) × (group_of o k t ≡ group_total (shape o))).
    absurd (omega (arith, z.0, key_most o part k is)))
    (groups o t valid k)

-- a key whose group is one of the table is of the group's part
pub key_in_part : (o : Opening) (t : Execution) (k : ℕ) → Valid o t →
    group_of o k t < group_total (shape o) → IsKeyIn o (part_of o (group_of o k t)) k
key_in_part o t k valid exists =
    ⊎_elim
    (λ (z : (k ≤ greatest_key) × (group_of o k t < group_total (shape o))
    × (part_of o (group_of o k t) ≡ part_with (shape o).bounds k)).
    subst (λ (part : ℕ). IsKeyIn o part k) (sym z.2)
    (part_with-has (shape o).bounds k o.layout.cut z.0))
    (λ (z : (greatest_key < k) × (group_of o k t ≡ group_total (shape o))).
    absurd (omega (arith, z.1, exists)))
    (groups o t valid k)

-- each key has a group of the table
pub group_exists : (o : Opening) (t : Execution) (k : ℕ) → Valid o t → k ≤ greatest_key →
    group_of o k t < group_total (shape o)
group_exists o t k valid small =
    ⊎_elim
    (λ (z : (k ≤ greatest_key) × (group_of o k t < group_total (shape o))
    × (part_of o (group_of o k t) ≡ part_with (shape o).bounds k)). z.1)
    (λ (z : (greatest_key < k) × (group_of o k t ≡ group_total (shape o))).
    absurd (omega (arith, z.0, small)))
    (groups o t valid k)

-- only keys have one
pub group_of-key : (o : Opening) (t : Execution) (k : ℕ) → Valid o t →
    group_of o k t < group_total (shape o) → k ≤ greatest_key
group_of-key o t k valid exists =
    ⊎_elim
    (λ (z : (k ≤ greatest_key) × (group_of o k t < group_total (shape o))
    × (part_of o (group_of o k t) ≡ part_with (shape o).bounds k)). z.0)
    (λ (z : (greatest_key < k) × (group_of o k t ≡ group_total (shape o))).
    absurd (omega (arith, z.1, exists)))
    (groups o t valid k)

-- ---- rebuilds ----

abbrev pub RebuildsInPart : Opening → Execution → Type 0
RebuildsInPart o t = (g f : ℕ) → rebuild g t ≡ Some f → part_of o f ≡ part_of o g

rebuild_step : (o : Opening) (t : Execution) (by : ℕ) (action : Action) → Allowed o t by action →
    RebuildsInPart o t → RebuildsInPart o (event by action ∷ t)
rebuild_step o t by (NewGroup new low high first) may old g f e =
    dite (ℕ_discrete new g)
    (λ (z : new ≡ g).
    let same : first ≡ f =
    some_is (sym (choice-same new g (Some first) (unless_named new (rebuild g t)) z) ∙ e)
    in
    ap (part_of o) (sym same) ∙ may.first_in_part ∙ ap (part_of o) z)
    (λ (n : new ≢ g).
    old g f (named_before new (rebuild g t) f
    (sym (choice-other new g (Some first) (unless_named new (rebuild g t)) n) ∙ e)).1)
rebuild_step o t by action may old g f e = old g f e

-- a new group is of the part of the group by which its rebuild is named
pub rebuild_in_part : (o : Opening) (t : Execution) → Valid o t → RebuildsInPart o t
rebuild_in_part o [] valid g f e = none_some e
rebuild_in_part o (e ∷ t) valid g f is =
    rebuild_step o t e.by e.action valid.0 (rebuild_in_part o t valid.1) g f is

-- ---- frozen groups ----

abbrev pub FrozenInChain : Opening → Execution → Type 0
FrozenInChain o t = (g : ℕ) → phase g t ≡ Frozen → (k : ℕ) × (group_of o k t ≡ g)

open_frozen : {X : Type 0} → Open ≡ Frozen → X
open_frozen e = cc

opened_frozen : {X : Type 0} {f : ℕ} → Opened f ≡ Frozen → X
opened_frozen e = cc

frozen_back : (h g : ℕ) (x y : Phase) → (x ≡ Frozen → ⊥) → cond (h == g) x y ≡ Frozen → y ≡ Frozen
frozen_back h g x y never e = dite (ℕ_discrete h g)
    (λ (z : h ≡ g). absurd (never (sym (choice-same h g x y z) ∙ e)))
    (λ (n : h ≢ g). sym (choice-other h g x y n) ∙ e)

frozen_unused : (i : ℕ) (x : Phase) → name_used_again i x ≡ Frozen → x ≡ Frozen
frozen_unused i Open e = e
frozen_unused i Frozen e = refl
frozen_unused i (Opened f) e = dite (ℕ_discrete f i)
    (λ (z : f ≡ i). open_frozen (sym (choice-same f i Open (Opened f) z) ∙ e))
    (λ (n : f ≢ i). opened_frozen (sym (choice-other f i Open (Opened f) n) ∙ e))

frozen_step : (o : Opening) (t : Execution) (b : ℕ) (d : Action) → Allowed o t b d →
    FrozenInChain o t → FrozenInChain o (event b d ∷ t)
frozen_step o t b (Freeze h) may old g e = dite (ℕ_discrete h g)
    (λ (z : h ≡ g). let c = may.chained in (c.0, c.1 ∙ z))
    (λ (n : h ≢ g). old g (sym (choice-other h g Frozen (phase g t) n) ∙ e))
frozen_step o t b (Thaw h) may old g e = old g (frozen_back h g Open (phase g t) open_frozen e)
frozen_step o t b (NewGroup h low high i) may old g e =
    old g (frozen_unused h (phase g t)
    (frozen_back h g Open (name_used_again h (phase g t)) open_frozen e))
frozen_step o t b (StoreOpened h i) may old g e =
    old g (frozen_back h g (Opened i) (phase g t) opened_frozen e)
frozen_step o t b (Install spot lead low high) may old g e =
    let m = old g e in (m.0, go m.0 m.1 (within low m.0 high) refl ∙ m.1)
  where
    go : (k : ℕ) → group_of o k t ≡ g → (w : Bool) → within low k high ≡ w →
        group_of o k (event b (Install spot lead low high) ∷ t) ≡ group_of o k t
    go k is false out = ap (λ (w : Bool). cond w (or_else (successor k t) (group_of o k t)) (group_of o k t)) out
    go k is true inside = let m = may.opened k inside in
        opened_frozen (sym m.2 ∙ (ap (λ (y : ℕ). phase y t) is ∙ e))
frozen_step o t b d may old g e = old g e

-- a frozen group is in the chain
pub frozen_in_chain : (o : Opening) (t : Execution) → Valid o t → FrozenInChain o t
frozen_in_chain o [] valid g e = open_frozen e
frozen_in_chain o (e ∷ t) valid g is =
    frozen_step o t e.by e.action valid.0 (frozen_in_chain o t valid.1) g is

-- ---- opened groups ----

abbrev pub OpenedInPart : Opening → Execution → Type 0
OpenedInPart o t = (g f : ℕ) → phase g t ≡ Opened f → part_of o f ≡ part_of o g

not_opened : {X : Type 0} {f : ℕ} → Open ≡ Opened f → X
not_opened e = cc

frozen_not_opened : {X : Type 0} {f : ℕ} → Frozen ≡ Opened f → X
frozen_not_opened e = cc

opened_is : {e f : ℕ} → Opened e ≡ Opened f → e ≡ f
opened_is e = cc

opened_back : (h g f : ℕ) (x y : Phase) → (x ≡ Opened f → ⊥) → cond (h == g) x y ≡ Opened f →
    y ≡ Opened f
opened_back h g f x y never e = dite (ℕ_discrete h g)
    (λ (z : h ≡ g). absurd (never (sym (choice-same h g x y z) ∙ e)))
    (λ (n : h ≢ g). sym (choice-other h g x y n) ∙ e)

opened_unused : (i f : ℕ) (x : Phase) → name_used_again i x ≡ Opened f → x ≡ Opened f
opened_unused i f Open e = e
opened_unused i f Frozen e = e
opened_unused i f (Opened e) is = dite (ℕ_discrete e i)
    (λ (z : e ≡ i). not_opened (sym (choice-same e i Open (Opened e) z) ∙ is))
    (λ (n : e ≢ i). sym (choice-other e i Open (Opened e) n) ∙ is)

opened_step : (o : Opening) (t : Execution) (b : ℕ) (d : Action) → Valid o t → Allowed o t b d →
    OpenedInPart o t → OpenedInPart o (event b d ∷ t)
opened_step o t b (Freeze h) valid may old g f e =
    old g f (opened_back h g f Frozen (phase g t) frozen_not_opened e)
opened_step o t b (Thaw h) valid may old g f e =
    old g f (opened_back h g f Open (phase g t) not_opened e)
opened_step o t b (NewGroup h low high i) valid may old g f e =
    old g f (opened_unused h f (phase g t)
    (opened_back h g f Open (name_used_again h (phase g t)) not_opened e))
opened_step o t b (StoreOpened h i) valid may old g f e = dite (ℕ_discrete h g)
    (λ (z : h ≡ g).
    let same : i ≡ f = opened_is (sym (choice-same h g (Opened i) (phase g t) z) ∙ e) in
    let c = frozen_in_chain o t valid h may.frozen in
    let new = may.planned c.0 c.1 in
    let exists : group_of o c.0 t < group_total (shape o) = old_exists c.0 new.0 new.1 in
    let mine = key_in_part o t c.0 valid exists in
    let theirs = successor_in_part o t c.0 new.0 valid new.1 in
    let part = one_part o (part_of o (group_of o c.0 t)) (part_of o new.0) c.0
    (group-part (shape o) (group_of o c.0 t) exists)
    (group-part (shape o) new.0 (successor_exists o t c.0 new.0 valid new.1)) mine theirs
    in
    ap (part_of o) (sym same)
    ∙ rebuild_in_part o t valid new.0 i new.2
    ∙ sym part
    ∙ ap (part_of o) (c.1 ∙ z))
    (λ (n : h ≢ g). old g f (sym (choice-other h g (Opened i) (phase g t) n) ∙ e))
  where
    old_exists : (k new : ℕ) → successor k t ≡ Some new → group_of o k t < group_total (shape o)
    old_exists k new is =
        group_exists o t k valid (key_most o (part_of o new) k (successor_in_part o t k new valid is))
opened_step o t b d valid may old g f e = old g f e

-- a group is opened to a rebuild of its part
pub opened_in_part : (o : Opening) (t : Execution) → Valid o t → OpenedInPart o t
opened_in_part o [] valid g f e = not_opened e
opened_in_part o (e ∷ t) valid g f is =
    opened_step o t e.by e.action valid.1 valid.0 (opened_in_part o t valid.1) g f is

-- ---- frozen and opened groups are groups of the table ----

abbrev pub FrozenExist : Opening → Execution → Type 0
FrozenExist o t = (g : ℕ) → phase g t ≡ Frozen → g < group_total (shape o)

frozen_exist_step : (o : Opening) (t : Execution) (b : ℕ) (d : Action) → Allowed o t b d →
    FrozenExist o t → FrozenExist o (event b d ∷ t)
frozen_exist_step o t b (Freeze h) may old g e = dite (ℕ_discrete h g)
    (λ (z : h ≡ g). subst (λ (n : ℕ). n < group_total (shape o)) z may.exists)
    (λ (n : h ≢ g). old g (sym (choice-other h g Frozen (phase g t) n) ∙ e))
frozen_exist_step o t b (Thaw h) may old g e = old g (frozen_back h g Open (phase g t) open_frozen e)
frozen_exist_step o t b (NewGroup h low high i) may old g e =
    old g (frozen_unused h (phase g t)
    (frozen_back h g Open (name_used_again h (phase g t)) open_frozen e))
frozen_exist_step o t b (StoreOpened h i) may old g e =
    old g (frozen_back h g (Opened i) (phase g t) opened_frozen e)
frozen_exist_step o t b d may old g e = old g e

pub frozen_exist : (o : Opening) (t : Execution) → Valid o t → FrozenExist o t
frozen_exist o [] valid g e = open_frozen e
frozen_exist o (e ∷ t) valid g is =
    frozen_exist_step o t e.by e.action valid.0 (frozen_exist o t valid.1) g is

abbrev pub OpenedExist : Opening → Execution → Type 0
OpenedExist o t = (g f : ℕ) → phase g t ≡ Opened f → g < group_total (shape o)

opened_exist_step : (o : Opening) (t : Execution) (b : ℕ) (d : Action) → Valid o t →
    Allowed o t b d → OpenedExist o t → OpenedExist o (event b d ∷ t)
opened_exist_step o t b (Freeze h) valid may old g f e =
    old g f (opened_back h g f Frozen (phase g t) frozen_not_opened e)
opened_exist_step o t b (Thaw h) valid may old g f e =
    old g f (opened_back h g f Open (phase g t) not_opened e)
opened_exist_step o t b (NewGroup h low high i) valid may old g f e =
    old g f (opened_unused h f (phase g t)
    (opened_back h g f Open (name_used_again h (phase g t)) not_opened e))
opened_exist_step o t b (StoreOpened h i) valid may old g f e = dite (ℕ_discrete h g)
    (λ (z : h ≡ g).
    subst (λ (n : ℕ). n < group_total (shape o)) z (frozen_exist o t valid h may.frozen))
    (λ (n : h ≢ g). old g f (sym (choice-other h g (Opened i) (phase g t) n) ∙ e))
opened_exist_step o t b d valid may old g f e = old g f e

pub opened_exist : (o : Opening) (t : Execution) → Valid o t → OpenedExist o t
opened_exist o [] valid g f e = not_opened e
opened_exist o (e ∷ t) valid g f is =
    opened_exist_step o t e.by e.action valid.1 valid.0 (opened_exist o t valid.1) g f is

-- ---- a beginning in one part leaves the rebuilds of the others ----

-- the new group of a key is of the part of the key's group
pub successor_of_part : (o : Opening) (t : Execution) (k h : ℕ) → Valid o t → successor k t ≡ Some h →
    part_of o h ≡ part_of o (group_of o k t)
successor_of_part o t k h valid is =
    let theirs = successor_in_part o t k h valid is in
    let exists = group_exists o t k valid (key_most o (part_of o h) k theirs) in
    one_part o (part_of o h) (part_of o (group_of o k t)) k
    (group-part (shape o) h (successor_exists o t k h valid is))
    (group-part (shape o) (group_of o k t) exists) theirs (key_in_part o t k valid exists)

-- a key whose group is opened is of another part than a group that is begun
pub opened_elsewhere : (o : Opening) (t : Execution) (b g low high f : ℕ) → Valid o t →
    MayBegin o t b g low high f → (k e : ℕ) → phase (group_of o k t) t ≡ Opened e →
    part_of o (group_of o k t) ≢ part_of o g
opened_elsewhere o t b g low high f valid may k e opened same =
    may.idle k e
    (subst (λ (part : ℕ). IsKeyIn o part k) same
    (key_in_part o t k valid (opened_exist o t valid (group_of o k t) e opened))) opened

-- a group of another part stays opened
pub stays_opened : (o : Opening) (t : Execution) (b g low high f h e : ℕ) → Valid o t →
    part_of o h ≢ part_of o g → phase h t ≡ Opened e →
    phase h (event b (NewGroup g low high f) ∷ t) ≡ Opened e
stays_opened o t b g low high f h e valid apart opened =
    let named = opened_in_part o t valid h e opened in
    choice-other g h Open (name_used_again g (phase h t)) (λ z. apart (ap (part_of o) (sym z)))
    ∙ ap (name_used_again g) opened
    ∙ choice-other e g Open (Opened e) (λ z. apart (sym named ∙ ap (part_of o) z))

-- and a key's new group of another part stays its new group
pub stays_successor : (o : Opening) (t : Execution) (b g low high f k h : ℕ) → Valid o t →
    MayBegin o t b g low high f → part_of o h ≢ part_of o g → successor k t ≡ Some h →
    successor k (event b (NewGroup g low high f) ∷ t) ≡ Some h
stays_successor o t b g low high f k h valid may apart is = go (within low k high) refl
  where
    go : (w : Bool) → within low k high ≡ w →
        cond w (Some g) (unless_named g (successor k t)) ≡ Some h
    go true inside =
        let range = in_range low high k inside in
        let mine =
        key_between o (part_of o g) low high k may.in_part.0 may.in_part.1 range.0 range.1
        in
        absurd (apart (one_part o (part_of o h) (part_of o g) k
        (group-part (shape o) h (successor_exists o t k h valid is))
        (group-part (shape o) g may.exists) (successor_in_part o t k h valid is) mine))
    go false outside =
        still_named g (successor k t) h (λ z. apart (ap (part_of o) z)) is

-- a new group of another part stays one of its rebuild
pub stays_rebuilt : (o : Opening) (t : Execution) (b g low high f h e : ℕ) → Valid o t →
    part_of o h ≢ part_of o g → rebuild h t ≡ Some e →
    rebuild h (event b (NewGroup g low high f) ∷ t) ≡ Some e
stays_rebuilt o t b g low high f h e valid apart is =
    let named = rebuild_in_part o t valid h e is in
    choice-other g h (Some f) (unless_named g (rebuild h t)) (λ z. apart (ap (part_of o) (sym z)))
    ∙ still_named g (rebuild h t) e (λ z. apart (sym named ∙ ap (part_of o) z)) is

-- the groups that a rebuild made are groups of the table
abbrev pub RebuiltExist : Opening → Execution → Type 0
RebuiltExist o t = (g f : ℕ) → rebuild g t ≡ Some f → g < group_total (shape o)

rebuilt_exist_step : (o : Opening) (t : Execution) (b : ℕ) (d : Action) → Allowed o t b d →
    RebuiltExist o t → RebuiltExist o (event b d ∷ t)
rebuilt_exist_step o t b (NewGroup new low high first) may old g f e = dite (ℕ_discrete new g)
    (λ (z : new ≡ g). subst (λ (n : ℕ). n < group_total (shape o)) z may.exists)
    (λ (n : new ≢ g).
    old g f (named_before new (rebuild g t) f
    (sym (choice-other new g (Some first) (unless_named new (rebuild g t)) n) ∙ e)).1)
rebuilt_exist_step o t b d may old g f e = old g f e

pub rebuilt_exist : (o : Opening) (t : Execution) → Valid o t → RebuiltExist o t
rebuilt_exist o [] valid g f e = none_some e
rebuilt_exist o (e ∷ t) valid g f is =
    rebuilt_exist_step o t e.by e.action valid.0 (rebuilt_exist o t valid.1) g f is

-- ---- what a beginning leaves in other parts ----

-- a group of another part keeps its phase
pub other_phase : (o : Opening) (t : Execution) (b g low high f h : ℕ) → Valid o t →
    part_of o h ≢ part_of o g → phase h (event b (NewGroup g low high f) ∷ t) ≡ phase h t
other_phase o t b g low high f h valid apart =
    choice-other g h Open (name_used_again g (phase h t)) (λ z. apart (ap (part_of o) (sym z)))
    ∙ named (phase h t) refl
  where
    named : (x : Phase) → phase h t ≡ x → name_used_again g x ≡ x
    named Open e = refl
    named Frozen e = refl
    named (Opened first) e =
        choice-other first g Open (Opened first)
        (λ z. apart (sym (opened_in_part o t valid h first e) ∙ ap (part_of o) z))

-- and its rebuild
pub other_rebuild : (o : Opening) (t : Execution) (b g low high f h : ℕ) → Valid o t →
    part_of o h ≢ part_of o g → rebuild h (event b (NewGroup g low high f) ∷ t) ≡ rebuild h t
other_rebuild o t b g low high f h valid apart =
    choice-other g h (Some f) (unless_named g (rebuild h t)) (λ z. apart (ap (part_of o) (sym z)))
    ∙ named (rebuild h t) refl
  where
    named : (x : Option ℕ) → rebuild h t ≡ x → unless_named g x ≡ x
    named None e = refl
    named (Some first) e =
        choice-other first g None (Some first)
        (λ z. apart (sym (rebuild_in_part o t valid h first e) ∙ ap (part_of o) z))

-- a key of another part is not one of the group's
pub other_range : (o : Opening) (t : Execution) (b g low high f part k : ℕ) → MayBegin o t b g low high f →
    IsPart o part → IsKeyIn o part k → part ≢ part_of o g → within low k high ≡ false
other_range o t b g low high f part k may is_part is apart = go (within low k high) refl
  where
    go : (w : Bool) → within low k high ≡ w → within low k high ≡ false
    go false out = out
    go true inside =
        let range = in_range low high k inside in
        let theirs =
        key_between o (part_of o g) low high k may.in_part.0 may.in_part.1 range.0 range.1
        in
        absurd (apart (one_part o part (part_of o g) k is_part (group-part (shape o) g may.exists) is
        theirs))

-- and keeps its new group
pub other_successor : (o : Opening) (t : Execution) (b g low high f part k : ℕ) → Valid o t →
    MayBegin o t b g low high f → IsPart o part → IsKeyIn o part k → part ≢ part_of o g →
    successor k (event b (NewGroup g low high f) ∷ t) ≡ successor k t
other_successor o t b g low high f part k valid may is_part is apart =
    ap (λ (w : Bool). cond w (Some g) (unless_named g (successor k t)))
    (other_range o t b g low high f part k may is_part is apart)
    ∙ named (successor k t) refl
  where
    named : (x : Option ℕ) → successor k t ≡ x → unless_named g x ≡ x
    named None e = refl
    named (Some h) e =
        let part_is = one_part o part (part_of o h) k is_part
        (group-part (shape o) h (successor_exists o t k h valid e)) is
        (successor_in_part o t k h valid e)
        in
        choice-other h g None (Some h) (λ z. apart (part_is ∙ ap (part_of o) z))

-- ---- groups before ----

-- the group before is of the key's part
abbrev pub BeforeInPart : Opening → Execution → Type 0
BeforeInPart o t = (k g : ℕ) → predecessor o k t ≡ Some g →
    (k ≤ greatest_key) × (part_of o g ≡ part_with (shape o).bounds k) × (g < group_total (shape o))

before_step : (o : Opening) (t : Execution) (b : ℕ) (d : Action) → Valid o t → Allowed o t b d →
    BeforeInPart o t → BeforeInPart o (event b d ∷ t)
before_step o t b (Install spot lead low high) valid may old k g e = go (within low k high) refl e
  where
    go : (w : Bool) → within low k high ≡ w →
        cond w (Some (group_of o k t)) (predecessor o k t) ≡ Some g →
        (k ≤ greatest_key) × (part_of o g ≡ part_with (shape o).bounds k) × (g < group_total (shape o))
    go true inside e =
        let m = may.opened k inside in
        let exists = opened_exist o t valid (group_of o k t) m.0 m.2 in
        let key = group_of-key o t k valid exists in
        let part = group_in_part o t (part_with (shape o).bounds k) k valid
        (part_with-within (shape o).bounds k) (part_with-has (shape o).bounds k o.layout.cut key)
        in
        let same : group_of o k t ≡ g = some_is e in
        (key, ap (part_of o) (sym same) ∙ part, subst (λ (n : ℕ). n < group_total (shape o)) same exists)
    go false outside e = old k g e
before_step o t b (NewGroup new low high first) valid may old k g e =
    old k g (before (predecessor o k t) e)
  where
    unlike : (x : Phase) (h : ℕ) → unless_opened new x h ≡ Some g → h ≡ g
    unlike Open h e = some_is e
    unlike Frozen h e = some_is e
    unlike (Opened f) h e = dite (ℕ_discrete f new)
        (λ (z : f ≡ new). none_some (sym (choice-same f new None (Some h) z) ∙ e))
        (λ (n : f ≢ new). some_is (sym (choice-other f new None (Some h) n) ∙ e))

    before : (x : Option ℕ) → remembered new (λ g. phase g t) x ≡ Some g → x ≡ Some g
    before None e = none_some e
    before (Some h) e = dite (ℕ_discrete h new)
        (λ (z : h ≡ new).
        none_some (sym (choice-same h new None (unless_opened new (phase h t) h) z) ∙ e))
        (λ (n : h ≢ new). ap (λ (y : ℕ). Some y)
        (unlike (phase h t) h (sym (choice-other h new None (unless_opened new (phase h t) h) n) ∙ e)))
before_step o t b d valid may old k g e = old k g e

pub before_in_part : (o : Opening) (t : Execution) → Valid o t → BeforeInPart o t
before_in_part o [] valid k g e = none_some e
before_in_part o (e ∷ t) valid k g is =
    before_step o t e.by e.action valid.1 valid.0 (before_in_part o t valid.1) k g is

-- a beginning in another part leaves a key the group before
pub other_before : (o : Opening) (t : Execution) (b g low high f part k : ℕ) → Valid o t →
    IsPart o part → IsKeyIn o part k → part ≢ part_of o g →
    predecessor o k (event b (NewGroup g low high f) ∷ t) ≡ predecessor o k t
other_before o t b g low high f part k valid is_part is apart = kept (predecessor o k t) refl
  where
    opened : (h : ℕ) → part_of o h ≢ part_of o g → (x : Phase) → phase h t ≡ x →
        unless_opened g x h ≡ Some h
    opened h other Open e = refl
    opened h other Frozen e = refl
    opened h other (Opened first) e =
        choice-other first g None (Some h)
        (λ z. other (sym (opened_in_part o t valid h first e) ∙ ap (part_of o) z))

    kept : (x : Option ℕ) → predecessor o k t ≡ x → remembered g (λ h. phase h t) x ≡ x
    kept None e = refl
    kept (Some h) e =
        let m = before_in_part o t valid k h e in
        let mine = part_with-key (shape o).bounds part k o.layout.cut is_part is in
        let other : part_of o h ≢ part_of o g = λ z. apart (sym mine ∙ sym m.1 ∙ z) in
        choice-other h g None (unless_opened g (phase h t) h) (λ z. other (ap (part_of o) z))
        ∙ opened h other (phase h t) refl

-- ---- what an install leaves in other parts ----

-- the hand that installs is a keeper of a part of the table
pub spot_is_part : (o : Opening) (t : Execution) (b : ℕ) (spot : InstallWord) (lead low high : ℕ) →
    IsHand o b → MayInstall o t b spot lead low high → IsPart o (part_of_spot o spot)
spot_is_part o t b spot lead low high is_hand may = let keeper = may.keeper in omega arith

-- a key of another part is none of its keys
pub outside_install : (o : Opening) (t : Execution) (b : ℕ) (spot : InstallWord) (lead low high part k : ℕ) →
    IsHand o b → MayInstall o t b spot lead low high → IsPart o part → IsKeyIn o part k →
    part ≢ part_of_spot o spot → within low k high ≡ false
outside_install o t b spot lead low high part k is_hand may is_part is apart =
    go (within low k high) refl
  where
    go : (w : Bool) → within low k high ≡ w → within low k high ≡ false
    go false out = out
    go true inside =
        let range = in_range low high k inside in
        let theirs =
        key_between o (part_of_spot o spot) low high k may.in_part.0 may.in_part.1 range.0 range.1
        in
        absurd (apart (one_part o part (part_of_spot o spot) k is_part
        (spot_is_part o t b spot lead low high is_hand may) is theirs))
