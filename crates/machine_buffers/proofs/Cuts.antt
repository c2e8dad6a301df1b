-- The cuts of a buffer's lanes, and the keys of its group.
use Rattle.std.proofs.Common.{◌≡◌, ◌≢◌, ℕ, zero, suc, ◌<◌, ◌≤◌, ◌⊎◌, inl, inr, ⊎_elim, Option}
use Rattle.std.proofs.Common.{Some, None, Bool, true, false, [], ◌∷◌, ◌++◌, cond, refl, sym}
use Rattle.std.proofs.Common.{ap, ◌∙◌, subst, arith}
use mathlib.Core.Logic.{dite}
use native.Mathlib.Decide.{ℕ_discrete}
use Rattle.index_machine.proofs.Executions.{choice-other}
use Rattle.index_machine.proofs.Options.{none_some, some_is}
use Rattle.index_machine.proofs.Ranges.{in_range, range_in}
use Rattle.index_machine.proofs.OfParts.{key_between, key_most}
use Rattle.index_machine.specs.Keepers.{part_of}
use Rattle.index_machine.specs.Conditions.{Allowed, Valid}
use Rattle.index_machine.specs.Execution.{Execution, event}
use Rattle.index_machine.specs.Groups.{phase, unless_named}
use Rattle.index_machine.specs.KeyRanges.{group_of, predecessor, successor}
use Rattle.index_machine.specs.Lanes.{begun_word, cut, lanes}
use Rattle.index_machine.specs.Openings.{within}
use Rattle.word_layout.specs.Parts.{greatest_key}
use Rattle.index_machine.specs.Permissions.{IsBufferFor}
use Rattle.index_machine.specs.Words.{word}
use Rattle.index_machine.specs.declared.events.Action.{Action}
use Rattle.index_machine.specs.declared.events.Action.TheVariants.{Install, NewGroup}
use Rattle.index_machine.specs.declared.opening.Opening.{Opening}
use Rattle.machine_buffers.proofs.BegunLanes.{HasSameLanes, begun_now, begun_on, cut_up, cuts_rise}
use Rattle.machine_buffers.proofs.BegunLanes.{keys_have_lanes}
use Rattle.machine_buffers.proofs.OpenedLanes.{opened_cut-key}
use Rattle.machine_buffers.proofs.OutOfUse.{begins_or_not, out_on}
use Rattle.machine_buffers.proofs.Ranges.{kept_install, kept_new}
use Rattle.machine_buffers.specs.Cuts.{BeginsOverACut, CutsAreKeys, CutsAreOfTheGroup, CutsStayOfTheGroup}
use Rattle.machine_buffers.specs.Cuts.{GroupsHaveLanesForTheirKeys, NewCutsAreOfTheGroup}
use Rattle.machine_buffers.specs.Cuts.{OpeningCutsAreOfTheGroup}
use Rattle.machine_buffers.specs.Groups.{Begins, IsKeyAtSomeStage, IsKeyOf, IsOutOfUse}
use Rattle.word_layout.specs.Words.{Header}
use Rattle.word_layout.specs.declared.headers.HeaderWord.{HeaderWord}
use Rattle.word_layout.specs.declared.headers.HeaderWord.TheVariants as header
use Rattle.word_layout.specs.declared.phase.Phase.TheVariants.{Opened}

pub lanes_for_keys : GroupsHaveLanesForTheirKeys
lanes_for_keys o t valid g k le is = record {
  some = let is_lane = (keys_have_lanes o t valid g k le is).1.is_lane in omega arith;
  few = (cuts_rise o t valid g).few;
  first = λ j below of.
      let has = keys_have_lanes o t valid g j below of in
      let up = cut_up o g t (cuts_rise o t valid g) has.0 0 has.0 (omega arith) has.1.is_lane in
      let from = has.1.from in omega arith;
}

-- ---- a group that is begun ----

module _ (o : Opening) (b g low high f : ℕ) (t : Execution)
    (valid : Valid o (event b (NewGroup g low high f) ∷ t)) (l : ℕ) where
  abbrev T : Execution
  T = event b (NewGroup g low high f) ∷ t

  now : (which : HeaderWord) → begun_word o g which T ≡ word o t (Header g which)
  now = begun_now o t b g low high f

  cut_most : l < lanes o g T → cut o g l T ≤ high
  cut_most lt = subst (λ (y : ℕ). y ≤ high) (sym (now (header.Cut l)))
      (valid.0.new_lanes.last l (subst (λ (y : ℕ). l < y) (now header.Lanes) lt))

  cut_least : l < lanes o g T → low ≤ cut o g l T
  cut_least lt =
      let up = cut_up o g T (cuts_rise o T valid g) l 0 l (omega arith) lt in
      let first : cut o g 0 T ≡ low = now (header.Cut 0) ∙ valid.0.new_lanes.first in
      omega arith

  pub cut_new : l < lanes o g T → (low ≤ cut o g l T) × (cut o g l T ≤ high)
      × (successor (cut o g l T) T ≡ Some g)
  cut_new lt = (
    cut_least lt,
    cut_most lt,
    ap (λ (y : Bool). cond y (Some g) (unless_named g (successor (cut o g l T) t)))
        (range_in low high (cut o g l T) (cut_least lt) (cut_most lt)),
  )

pub new_cuts : NewCutsAreOfTheGroup
new_cuts o b g low high f t valid l lt = cut_new o b g low high f t valid l lt

-- ---- cuts are keys ----

begun_key : (o : Opening) (t : Execution) (b : ℕ) (d : Action) (g l : ℕ) → Begins g d →
    Valid o (event b d ∷ t) → l < lanes o g (event b d ∷ t) →
    cut o g l (event b d ∷ t) ≤ greatest_key
begun_key o t b d g l z = subst (λ (y : Action). Valid o (event b y ∷ t) →
    l < lanes o g (event b y ∷ t) → cut o g l (event b y ∷ t) ≤ greatest_key) (sym z.3)
    (λ valid lt. let most = (cut_new o b g z.0 z.1 z.2 t valid l lt).1 in
    let up = key_most o (part_of o g) z.1 valid.0.in_part.1 in omega arith)

pub cuts_are_keys : CutsAreKeys
cuts_are_keys o [] valid g l lt = (opened_cut-key o g l lt).0
cuts_are_keys o (e ∷ t) valid g l lt = ⊎_elim
    (λ (z : Begins g e.action). begun_key o t e.by e.action g l z valid lt)
    (λ (never : Begins g e.action → ⊥).
    let same = begun_on o t e.by e.action g never in
    let old = cuts_are_keys o t valid.1 g l (subst (λ (y : ℕ). l < y) (same header.Lanes) lt) in
    subst (λ (y : ℕ). y ≤ greatest_key) (sym (same (header.Cut l))) old)
    (begins_or_not g e.action)

-- ---- cuts of the opening ----

pub opening_cuts : OpeningCutsAreOfTheGroup
opening_cuts o g = inl (λ l lt. inl (inl (inl (opened_cut-key o g l lt).1)))

-- ---- cuts stay keys of the group ----

-- a key has this group for one, or not
named_or_not : (x : Option ℕ) (g : ℕ) → (x ≡ Some g) ⊎ (x ≡ Some g → ⊥)
named_or_not None g = inr (λ e. none_some e)
named_or_not (Some i) g = dite (ℕ_discrete i g) (λ (z : i ≡ g). inl (ap Some z))
    (λ (n : i ≢ g). inr (λ e. n (some_is e)))

-- as another group is begun, that of the chain and the one before stay the key's
key_new : (o : Opening) (t : Execution) (b h low high f g k : ℕ) → Valid o t →
    Allowed o t b (NewGroup h low high f) → h ≢ g →
    (within low k high ≡ true → (IsKeyOf o g k t → ⊥) → ⊥) → successor k t ≡ Some g →
    IsKeyAtSomeStage o g k (event b (NewGroup h low high f) ∷ t)
    ⊎ IsOutOfUse o g (event b (NewGroup h low high f) ∷ t)
key_new o t b h low high f g k valid may other over e = go (within low k high) refl
  where
    -- the key would be of the part of the group that is begun, where no rebuild is under way
    n_other : (i : ℕ) × (phase (group_of o k t) t ≡ Opened i) × (successor k t ≡ Some g) →
        within low k high ≡ true → ⊥
    n_other y here =
        let range = in_range low high k here in
        may.idle k y.0
        (key_between o (part_of o h) low high k may.in_part.0 may.in_part.1 range.0 range.1) y.1

    T : Execution
    T = event b (NewGroup h low high f) ∷ t

    stays : (w : Bool) → within low k high ≡ w →
        successor k T ≡ cond w (Some h) (unless_named h (successor k t))
    stays w z = ap (λ (y : Bool). cond y (Some h) (unless_named h (successor k t))) z

    of : IsKeyOf o g k t → IsKeyAtSomeStage o g k T ⊎ IsOutOfUse o g T
    of is = ⊎_elim (λ (z : IsKeyOf o g k T). inl (inl z)) (λ (z : IsOutOfUse o g T). inr z)
        (kept_new o t b h low high f g k valid may (λ z. other (sym z)) is)

    go : (w : Bool) → within low k high ≡ w → IsKeyAtSomeStage o g k T ⊎ IsOutOfUse o g T
    go false out = inl (inr (stays false out ∙ (ap (unless_named h) e
        ∙ choice-other g h None (Some g) (λ z. other (sym z)))))
    go true here = dite (ℕ_discrete (group_of o k t) g)
        (λ (z : group_of o k t ≡ g). of (inl (inl z)))
        (λ (n : group_of o k t ≢ g). ⊎_elim
        (λ (z : predecessor o k t ≡ Some g). of (inr z))
        (λ (not : predecessor o k t ≡ Some g → ⊥). absurd (over here (λ is. ⊎_elim
        (λ (x : IsBufferFor o k g t). ⊎_elim (λ (y : group_of o k t ≡ g). n y)
        (λ (y : (i : ℕ) × (phase (group_of o k t) t ≡ Opened i) × (successor k t ≡ Some g)).
        n_other y here) x)
        (λ (x : predecessor o k t ≡ Some g). not x) is)))
        (named_or_not (predecessor o k t) g))

-- a key of a group that is not begun stays one, unless another group is begun for it
key_step : (o : Opening) (t : Execution) (b : ℕ) (d : Action) (g k : ℕ) → Valid o t →
    Allowed o t b d → (Begins g d → ⊥) →
    ((h low high f : ℕ) → d ≡ NewGroup h low high f → h ≢ g → within low k high ≡ true →
    (IsKeyOf o g k t → ⊥) → ⊥) →
    IsKeyAtSomeStage o g k t →
    IsKeyAtSomeStage o g k (event b d ∷ t) ⊎ IsOutOfUse o g (event b d ∷ t)
key_step o t b (Install spot lead low high) g k valid may never over is = ⊎_elim
    (λ (x : IsKeyOf o g k t). ⊎_elim
    (λ (z : IsKeyOf o g k (event b (Install spot lead low high) ∷ t)). inl (inl z))
    (λ (z : IsOutOfUse o g (event b (Install spot lead low high) ∷ t)). inr z)
    (kept_install o t b spot lead low high g k valid may x))
    (λ (x : successor k t ≡ Some g). inl (inr x)) is
key_step o t b (NewGroup h low high f) g k valid may never over is =
    let other : h ≢ g =
    λ z. never (low, high, f, ap (λ (y : ℕ). NewGroup y low high f) z) in
    ⊎_elim
    (λ (x : IsKeyOf o g k t). ⊎_elim
    (λ (z : IsKeyOf o g k (event b (NewGroup h low high f) ∷ t)). inl (inl z))
    (λ (z : IsOutOfUse o g (event b (NewGroup h low high f) ∷ t)). inr z)
    (kept_new o t b h low high f g k valid may (λ z. other (sym z)) x))
    (λ (x : successor k t ≡ Some g).
    key_new o t b h low high f g k valid may other (over h low high f refl other) x) is
key_step o t b d g k valid may never over is = inl (⊎_elim
    (λ (x : IsKeyOf o g k t). ⊎_elim
    (λ (y : IsBufferFor o k g t). ⊎_elim
    (λ (z : group_of o k t ≡ g). inl (inl (inl z)))
    (λ (z : (i : ℕ) × (phase (group_of o k t) t ≡ Opened i) × (successor k t ≡ Some g)). inr z.2) y)
    (λ (y : predecessor o k t ≡ Some g). inl (inr y)) x)
    (λ (x : successor k t ≡ Some g). inr x) is)

-- of so many either each keeps it, or the other thing is so
all_or : (P : ℕ → Type 0) (Q : Type 0) (n : ℕ) → ((i : ℕ) → i < n → P i ⊎ Q) →
    ((i : ℕ) → i < n → P i) ⊎ Q
all_or P Q zero each = inl (λ i lt. absurd (omega arith))
all_or P Q (suc n) each = ⊎_elim
    (λ (before : (i : ℕ) → i < n → P i). ⊎_elim
    (λ (last : P n). inl (λ i lt. dite (ℕ_discrete n i) (λ (z : n ≡ i). subst P z last)
    (λ (differ : n ≢ i). before i (omega arith))))
    (λ (q : Q). inr q) (each n (omega arith)))
    (λ (q : Q). inr q)
    (all_or P Q n (λ i lt. each i (omega arith)))

cuts_on : (o : Opening) (t : Execution) (b : ℕ) (d : Action) (g : ℕ) → Valid o (event b d ∷ t) →
    (BeginsOverACut o g d t → ⊥) → CutsAreOfTheGroup o g t → CutsAreOfTheGroup o g (event b d ∷ t)
cuts_on o t b d g valid over old = ⊎_elim
    (λ (z : Begins g d). begun z valid)
    (λ (never : Begins g d → ⊥). ⊎_elim
    (λ (keys : (l : ℕ) → l < lanes o g t → IsKeyAtSomeStage o g (cut o g l t) t). kept never keys)
    (λ (out : IsOutOfUse o g t). inr (out_on o t b d g valid.1 valid.0 out never)) old)
    (begins_or_not g d)
  where
    T : Execution
    T = event b d ∷ t

    begun : (z : Begins g d) → Valid o T → CutsAreOfTheGroup o g T
    begun z = subst (λ (y : Action). Valid o (event b y ∷ t) → CutsAreOfTheGroup o g (event b y ∷ t))
        (sym z.3)
        (λ valid. inl (λ l lt. inr (cut_new o b g z.0 z.1 z.2 t valid l lt).2))

    kept : (Begins g d → ⊥) →
        ((l : ℕ) → l < lanes o g t → IsKeyAtSomeStage o g (cut o g l t) t) → CutsAreOfTheGroup o g T
    kept never keys =
        let same : HasSameLanes o g t T = begun_on o t b d g never in
        all_or (λ l. IsKeyAtSomeStage o g (cut o g l T) T) (IsOutOfUse o g T) (lanes o g T) (λ l lt.
        let was : l < lanes o g t = subst (λ (y : ℕ). l < y) (same header.Lanes) lt in
        subst (λ (y : ℕ). IsKeyAtSomeStage o g y T ⊎ IsOutOfUse o g T) (sym (same (header.Cut l)))
        (key_step o t b d g (cut o g l t) valid.1 valid.0 never
        (λ h low high f e n here none. over (record {
          lane = l;
          is_lane = was;
          unanswered = none;
          other = h;
          differs = n;
          low = low;
          high = high;
          first = f;
          begins = e;
          over = here;
        })) (keys l was)))

pub cuts_stay : CutsStayOfTheGroup
cuts_stay o g [] t valid over old = old
cuts_stay o g (x ∷ n) t valid over old =
    cuts_on o (n ++ t) x.by x.action g valid over.0 (cuts_stay o g n t valid.1 over.1 old)
