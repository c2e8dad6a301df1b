-- The lanes of a buffer, as its group was begun: they stay, their cuts rise, and each key of the group is in
-- one of them.
use Rattle.std.proofs.Common.{length, ◌≡◌, ◌≢◌, ℕ, zero, suc, ◌+◌, ◌<◌, ◌≤◌, ◌⊎◌, inl, inr, ⊎_elim, Option}
use Rattle.std.proofs.Common.{Some, None, Bool, true, false, [], ◌∷◌, ◌++◌, cond, refl, sym, ap, ◌∙◌}
use Rattle.std.proofs.Common.{subst, arith, eq-eqb, eqb-true}
use Rattle.std.specs.Prelude.{◌==◌, ◌-◌}
use mathlib.Core.Logic.{dite}
use native.Mathlib.Decide.{ℕ_discrete}
use Rattle.index_machine.proofs.Executions.{choice-other, choice-same}
use Rattle.index_machine.proofs.OpeningRows.{opening_role-buffer}
use Rattle.index_machine.proofs.Options.{named_before, none_some, some_is}
use Rattle.index_machine.proofs.Ranges.{in_range}
use Rattle.index_machine.specs.Conditions.{Allowed, Valid}
use Rattle.index_machine.specs.Execution.{Execution, event}
use Rattle.index_machine.specs.Groups.{phase, unless_named}
use Rattle.index_machine.specs.KeyRanges.{group_of, predecessor, remembered, successor, unless_opened}
use Rattle.index_machine.specs.Lanes.{HasLane, HasNewLanes, begun_word, cut, lanes}
use Rattle.index_machine.specs.Openings.{opening_group, within}
use Rattle.rebuild_plan.specs.Plan.{lane_count}
use Rattle.word_layout.specs.Parts.{greatest_key}
use Rattle.index_machine.specs.OpeningRows.{opening_keys}
use Rattle.index_machine.proofs.OpeningGroups.{opening_group-chain, opening_pivot-least}
use Rattle.index_machine.specs.Permissions.{IsBufferFor}
use Rattle.index_machine.specs.Rows.{InBuffer, role}
use Rattle.index_machine.specs.Words.{word}
use Rattle.index_machine.specs.declared.events.Action.{Action}
use Rattle.index_machine.specs.declared.events.Action.TheVariants.{Install, LinkRow, NewGroup}
use Rattle.index_machine.specs.declared.events.InstallWord.{InstallWord}
use Rattle.index_machine.specs.declared.opening.Opening.{Opening}
use Rattle.machine_barriers.proofs.Reaches.{may_as}
use Rattle.machine_buffers.proofs.NextRows.{less_or_not}
use Rattle.machine_buffers.proofs.OpenedLanes.{opened_cut-is, opened_rising}
use Rattle.machine_buffers.proofs.OutOfUse.{begins_or_not, group_in, group_out}
use Rattle.machine_buffers.specs.Groups.{Begins, IsKeyOf}
use Rattle.machine_buffers.specs.Lanes.{IsBefore, IsInRange, Lane, buffer_lane}
use Rattle.machine_buffers.specs.Walks.{AreRisingLanes, CutsRise, KeysOfGroupsHaveLanes, LanesAreApart}
use Rattle.machine_buffers.specs.Walks.{LanesAreInOrder, LanesHaveNoGaps, LanesStay, LanesStayUntilBegun}
use Rattle.machine_buffers.specs.Walks.{RowsHaveLanes}
use Rattle.machine_readers.proofs.InstalledRedirects.{remembered_back}
use Rattle.machine_readers.proofs.ReadSections.{stands_in_on}
use Rattle.machine_readers.proofs.Roles.{IsLinkOf, row_back}
use Rattle.word_layout.specs.declared.phase.Phase.TheVariants.{Opened}
use Rattle.word_layout.specs.Headers.{most_lanes}
use Rattle.word_layout.specs.Words.{Header}
use Rattle.word_layout.specs.declared.headers.HeaderWord.{HeaderWord}
use Rattle.word_layout.specs.declared.headers.HeaderWord.TheVariants as header

-- ---- the same lanes ----

-- the group has the lanes that it had
abbrev pub HasSameLanes : Opening → ℕ → Execution → Execution → Type 0
HasSameLanes o g t later = (which : HeaderWord) → begun_word o g which later ≡ begun_word o g which t

-- so it is until it is begun anew
pub begun_on : (o : Opening) (t : Execution) (b : ℕ) (d : Action) (g : ℕ) → (Begins g d → ⊥) →
    HasSameLanes o g t (event b d ∷ t)
begun_on o t b (NewGroup h low high f) g never which =
    choice-other h g (word o t (Header g which)) (begun_word o g which t)
    (λ z. never (low, high, f, ap (λ (y : ℕ). NewGroup y low high f) z))
begun_on o t b d g never which = refl

-- then it has those of its header
pub begun_now : (o : Opening) (t : Execution) (b g low high f : ℕ) (which : HeaderWord) →
    begun_word o g which (event b (NewGroup g low high f) ∷ t) ≡ word o t (Header g which)
begun_now o t b g low high f which =
    choice-same g g (word o t (Header g which)) (begun_word o g which t) refl

-- a key is in the lane in which it was
pub has_same : (o : Opening) (g l k : ℕ) (t later : Execution) → HasSameLanes o g t later →
    HasLane o g l k t → HasLane o g l k later
has_same o g l k t later same has = record {
  is_lane = subst (λ (y : ℕ). l < y) (sym (same header.Lanes)) has.is_lane;
  from = subst (λ (y : ℕ). y ≤ k) (sym (same (header.Cut l))) has.from;
  end = ⊎_elim (λ (z : l + 1 ≡ lanes o g t). inl (z ∙ sym (same header.Lanes)))
      (λ (z : k < cut o g (l + 1) t).
      inr (subst (λ (y : ℕ). k < y) (sym (same (header.Cut (l + 1)))) z))
      has.end;
}

-- a lane of so many, from its cut to the next one
abbrev made_lane : ℕ → ℕ → ℕ → ℕ → ℕ → Lane
made_lane g l many low next = record {
  group = g;
  head = Header g (header.Head l);
  low = low;
  end = cond (l + 1 == many) None (Some next);
}

pub lane_same : (o : Opening) (g : ℕ) (t later : Execution) → HasSameLanes o g t later → (l : ℕ) →
    buffer_lane o g l later ≡ buffer_lane o g l t
lane_same o g t later same l =
    ap (λ (y : ℕ). made_lane g l y (cut o g l later) (cut o g (l + 1) later)) (same header.Lanes)
    ∙ (ap (λ (y : ℕ). made_lane g l (lanes o g t) y (cut o g (l + 1) later)) (same (header.Cut l))
    ∙ ap (λ (y : ℕ). made_lane g l (lanes o g t) (cut o g l t) y) (same (header.Cut (l + 1))))

-- ---- keys in a lane's range ----

before_end_of : (w : Bool) (k next : ℕ) → (w ≡ true) ⊎ (k < next) →
    IsBefore k (cond w None (Some next))
before_end_of true k next z = tt
before_end_of false k next z = ⊎_elim (λ (e : false ≡ true). let bad = e in cc) (λ (lt : k < next). lt) z

end_or_before : (w : Bool) (k next : ℕ) → IsBefore k (cond w None (Some next)) →
    (w ≡ true) ⊎ (k < next)
end_or_before true k next z = inl refl
end_or_before false k next z = inr z

-- a key that is in a lane is in its range
pub range_of : (o : Opening) (g l k : ℕ) (t : Execution) → HasLane o g l k t →
    IsInRange (buffer_lane o g l t) k
range_of o g l k t has = (
  has.from,
  before_end_of (l + 1 == lanes o g t) k (cut o g (l + 1) t) (⊎_elim
      (λ (z : l + 1 ≡ lanes o g t). inl (eq-eqb (l + 1) (lanes o g t) z))
      (λ (z : k < cut o g (l + 1) t). inr z) has.end),
)

-- and a key in the range of a lane is in it
pub lane_of : (o : Opening) (g l k : ℕ) (t : Execution) → l < lanes o g t →
    IsInRange (buffer_lane o g l t) k → HasLane o g l k t
lane_of o g l k t lt is = record {
  is_lane = lt;
  from = is.0;
  end = ⊎_elim (λ (z : (l + 1 == lanes o g t) ≡ true). inl (eqb-true (l + 1) (lanes o g t) z))
      (λ (z : k < cut o g (l + 1) t). inr z)
      (end_or_before (l + 1 == lanes o g t) k (cut o g (l + 1) t) is.1);
}

-- ---- cuts rise ----

rising_same : (o : Opening) (g : ℕ) (t later : Execution) → HasSameLanes o g t later →
    AreRisingLanes o g t → AreRisingLanes o g later
rising_same o g t later same old = record {
  few = subst (λ (y : ℕ). y ≤ most_lanes) (sym (same header.Lanes)) old.few;
  rising = λ i lt.
      let up = old.rising i (subst (λ (y : ℕ). i + 1 < y) (same header.Lanes) lt) in
      let low = same (header.Cut i) in let high = same (header.Cut (i + 1)) in omega arith;
}

rising_new : (o : Opening) (t : Execution) (b g low high f : ℕ) → HasNewLanes o g low high t →
    AreRisingLanes o g (event b (NewGroup g low high f) ∷ t)
rising_new o t b g low high f new =
    let now = begun_now o t b g low high f in
    record {
      few = subst (λ (y : ℕ). y ≤ most_lanes) (sym (now header.Lanes)) new.few;
      rising = λ i lt.
          let up = new.rising i (subst (λ (y : ℕ). i + 1 < y) (now header.Lanes) lt) in
          let at = now (header.Cut i) in let next = now (header.Cut (i + 1)) in omega arith;
    }

pub cuts_rise : CutsRise
cuts_rise o [] valid g = opened_rising o g
cuts_rise o (e ∷ t) valid g = ⊎_elim
    (λ (z : Begins g e.action).
    subst (λ (y : Action). AreRisingLanes o g (event e.by y ∷ t)) (sym z.3)
    (rising_new o t e.by g z.0 z.1 z.2
    (may_as o t e.by e.action (NewGroup g z.0 z.1 z.2) z.3 valid.0).new_lanes))
    (λ (never : Begins g e.action → ⊥).
    rising_same o g t (event e.by e.action ∷ t) (begun_on o t e.by e.action g never)
    (cuts_rise o t valid.1 g))
    (begins_or_not g e.action)

-- a later lane has no smaller cut
pub cut_up : (o : Opening) (g : ℕ) (t : Execution) → AreRisingLanes o g t → (d i j : ℕ) → i + d ≡ j →
    j < lanes o g t → cut o g i t ≤ cut o g j t
cut_up o g t rising zero i j e lt =
    let same : i ≡ j = omega arith in
    let up : cut o g i t ≤ cut o g i t = omega arith in
    subst (λ (y : ℕ). cut o g i t ≤ cut o g y t) same up
cut_up o g t rising (suc d) i j e lt =
    let one = rising.rising i (omega arith) in
    let rest = cut_up o g t rising d (i + 1) j (omega arith) lt in omega arith

ordered : (o : Opening) (g i j k m : ℕ) (t : Execution) → AreRisingLanes o g t → i < j →
    HasLane o g i k t → HasLane o g j m t → k < m
ordered o g i j k m t rising lt here there = ⊎_elim
    (λ (z : i + 1 ≡ lanes o g t). let is = there.is_lane in absurd (omega arith))
    (λ (z : k < cut o g (i + 1) t).
    let up = cut_up o g t rising (j - (i + 1)) (i + 1) j (omega arith) there.is_lane in
    let from = there.from in omega arith)
    here.end

pub in_order : LanesAreInOrder
in_order o t valid g i j k m lt here there =
    ordered o g i j k m t (cuts_rise o t valid g) lt here there

pub lanes_apart : LanesAreApart
lanes_apart o t valid g i j k here there =
    ⊎_elim (λ (lt : i < j). let less = in_order o t valid g i j k k lt here there in
    absurd (omega arith))
    (λ (le : j ≤ i). ⊎_elim
    (λ (lt : j < i). let less = in_order o t valid g j i k k lt there here in absurd (omega arith))
    (λ (ge : i ≤ j). omega arith)
    (less_or_not j i))
    (less_or_not i j)

pub no_gaps : LanesHaveNoGaps
no_gaps o t g l low k high up down first last = record {
  is_lane = last.is_lane;
  from = let from = first.from in omega arith;
  end = ⊎_elim (λ (z : l + 1 ≡ lanes o g t). inl z)
      (λ (z : high < cut o g (l + 1) t). inr (omega arith)) last.end;
}

-- ---- keys have lanes ----

-- the key is in a lane of the group
abbrev pub HasSomeLane : Opening → ℕ → ℕ → Execution → Type 0
HasSomeLane o g k t = (lane : ℕ) × HasLane o g lane k t

pub some_same : (o : Opening) (g k : ℕ) (t later : Execution) → HasSameLanes o g t later →
    HasSomeLane o g k t → HasSomeLane o g k later
some_same o g k t later same has = (has.0, has_same o g has.0 k t later same has.1)

-- the last lane from here down whose cut is not above the key
find_lane : (o : Opening) (g k : ℕ) (t : Execution) → cut o g 0 t ≤ k → (i : ℕ) → i < lanes o g t →
    (i + 1 ≡ lanes o g t) ⊎ (k < cut o g (i + 1) t) → HasSomeLane o g k t
find_lane o g k t first zero lt end = (0, record { is_lane = lt; from = first; end = end })
find_lane o g k t first (suc i) lt end = ⊎_elim
    (λ (below : k < cut o g (suc i) t). find_lane o g k t first i (omega arith)
    (inr (let next : suc i ≡ i + 1 = omega arith in
    subst (λ (y : ℕ). k < cut o g y t) next below)))
    (λ (le : cut o g (suc i) t ≤ k). (suc i, record { is_lane = lt; from = le; end = end }))
    (less_or_not k (cut o g (suc i) t))

-- a key that is not below the first cut is in a lane
lane_from : (o : Opening) (g k : ℕ) (t : Execution) → 1 ≤ lanes o g t → cut o g 0 t ≤ k →
    HasSomeLane o g k t
lane_from o g k t some first = go (lanes o g t) refl
  where
    go : (many : ℕ) → many ≡ lanes o g t → HasSomeLane o g k t
    go zero e = absurd (omega arith)
    go (suc i) e = find_lane o g k t first i (omega arith) (inl (omega arith))

-- the key is in a lane of its group, of its new group, and of its group before
record HasLanesOf (o : Opening) (k : ℕ) (t : Execution) : Type 0 where
  owned : (g : ℕ) → group_of o k t ≡ g → HasSomeLane o g k t
  awaited : (g : ℕ) → successor k t ≡ Some g → HasSomeLane o g k t
  before : (g : ℕ) → predecessor o k t ≡ Some g → HasSomeLane o g k t

lanes_new : (o : Opening) (t : Execution) (b h low high f k : ℕ) →
    Allowed o t b (NewGroup h low high f) → HasLanesOf o k t →
    HasLanesOf o k (event b (NewGroup h low high f) ∷ t)
lanes_new o t b h low high f k may old = record {
  owned = λ g e. kept g (λ z. may.gone.unowned k (e ∙ sym z)) (old.owned g e);
  awaited = λ g e. go g (within low k high) refl e;
  before = λ g e.
      let w = remembered_back t b h low high f g (predecessor o k t) e in
      kept g (forgotten g (predecessor o k t) e) (old.before g w.0);
}
  where
    T : Execution
    T = event b (NewGroup h low high f) ∷ t

    begun : {g x y z : ℕ} → NewGroup h low high f ≡ NewGroup g x y z → h ≡ g
    begun e = cc

    kept : (g : ℕ) → h ≢ g → HasSomeLane o g k t → HasSomeLane o g k T
    kept g other has =
        some_same o g k t T (begun_on o t b (NewGroup h low high f) g (λ s. other (begun s.3))) has

    -- the group before is not the one that is begun
    forgotten : (g : ℕ) (p : Option ℕ) → remembered h (λ x. phase x t) p ≡ Some g → h ≢ g
    forgotten g None e z = none_some e
    forgotten g (Some i) e z = dite (ℕ_discrete i h)
        (λ (s : i ≡ h).
        none_some (sym (choice-same i h None (unless_opened h (phase i t) i) s) ∙ e))
        (λ (n : i ≢ h).
        n (some_is (remembered_back t b h low high f g (Some i) e).0 ∙ sym z))

    go : (g : ℕ) (w : Bool) → within low k high ≡ w →
        cond w (Some h) (unless_named h (successor k t)) ≡ Some g → HasSomeLane o g k T
    go g true is e =
        let now = begun_now o t b h low high f in
        let new = may.new_lanes in
        let up = (in_range low high k is).0 in
        subst (λ (y : ℕ). HasSomeLane o y k T) (some_is e)
        (lane_from o h k T
        (subst (λ (y : ℕ). 1 ≤ y) (sym (now header.Lanes)) new.some)
        (subst (λ (y : ℕ). y ≤ k) (sym (now (header.Cut 0) ∙ new.first)) up))
    go g false is e =
        let m = named_before h (successor k t) g e in
        kept g (λ z. m.0 (sym z)) (old.awaited g m.1)

lanes_install : (o : Opening) (t : Execution) (b : ℕ) (spot : InstallWord) (lead low high k : ℕ) →
    Allowed o t b (Install spot lead low high) → HasLanesOf o k t →
    HasLanesOf o k (event b (Install spot lead low high) ∷ t)
lanes_install o t b spot lead low high k may old = record {
  owned = λ g e. owned g e (within low k high) refl;
  awaited = λ g e. kept g (old.awaited g e);
  before = λ g e. before g (within low k high) e;
}
  where
    T : Execution
    T = event b (Install spot lead low high) ∷ t

    kept : (g : ℕ) → HasSomeLane o g k t → HasSomeLane o g k T
    kept g has = some_same o g k t T (λ which. refl) has

    owned : (g : ℕ) → group_of o k T ≡ g → (w : Bool) → within low k high ≡ w → HasSomeLane o g k T
    owned g e true is = let m = may.opened k is in
        kept g (old.awaited g (m.3 ∙ ap Some
        (sym (group_in o t b spot lead low high k m.1 is m.3) ∙ e)))
    owned g e false out =
        kept g (old.owned g (sym (group_out o t b spot lead low high k out) ∙ e))

    before : (g : ℕ) (w : Bool) → cond w (Some (group_of o k t)) (predecessor o k t) ≡ Some g →
        HasSomeLane o g k T
    before g true e = kept g (old.owned g (some_is e))
    before g false e = kept g (old.before g e)

lanes_step : (o : Opening) (t : Execution) (b : ℕ) (d : Action) (k : ℕ) → Allowed o t b d →
    HasLanesOf o k t → HasLanesOf o k (event b d ∷ t)
lanes_step o t b (NewGroup h low high f) k may old = lanes_new o t b h low high f k may old
lanes_step o t b (Install spot lead low high) k may old =
    lanes_install o t b spot lead low high k may old
lanes_step o t b d k may old = record {
  owned = λ g e. some_same o g k t (event b d ∷ t) (λ which. refl) (old.owned g e);
  awaited = λ g e. some_same o g k t (event b d ∷ t) (λ which. refl) (old.awaited g e);
  before = λ g e. some_same o g k t (event b d ∷ t) (λ which. refl) (old.before g e);
}

-- at the opening the group of a key has a lane for it
opened_lane : (o : Opening) (k : ℕ) → k ≤ greatest_key → HasSomeLane o (opening_group o k) k []
opened_lane o k le =
    let g : ℕ = opening_group o k in
    let chained = opening_group-chain o k le in
    let n : ℕ = length (opening_keys o g) in
    let many : lanes o g [] ≡ lane_count n =
    ap (λ (w : Bool). cond w (lane_count n) 0) chained
    in
    let first = opened_cut-is o g 0 chained (omega arith) in
    let least = opening_pivot-least o k le in
    lane_from o g k [] (omega arith) (omega arith)

all_lanes : (o : Opening) (k : ℕ) → k ≤ greatest_key → (t : Execution) → Valid o t → HasLanesOf o k t
all_lanes o k le [] valid = record {
  owned = λ g e. subst (λ (y : ℕ). HasSomeLane o y k []) e (opened_lane o k le);
  awaited = λ g e. none_some e;
  before = λ g e. none_some e;
}
all_lanes o k le (e ∷ t) valid = lanes_step o t e.by e.action k valid.0 (all_lanes o k le t valid.1)

pub keys_have_lanes : KeysOfGroupsHaveLanes
keys_have_lanes o t valid g k le is =
    let all = all_lanes o k le t valid in
    ⊎_elim
    (λ (of : IsKeyOf o g k t). ⊎_elim
    (λ (x : IsBufferFor o k g t). ⊎_elim (λ (y : group_of o k t ≡ g). all.owned g y)
    (λ (y : (f : ℕ) × (phase (group_of o k t) t ≡ Opened f) × (successor k t ≡ Some g)).
    all.awaited g y.2) x)
    (λ (x : predecessor o k t ≡ Some g). all.before g x) of)
    (λ (x : successor k t ≡ Some g). all.awaited g x) is

-- ---- lanes of rows ----

-- a group that has a row is not begun
pub row_unbegun : (o : Opening) (t : Execution) (b : ℕ) (d : Action) (g k q : ℕ) → Allowed o t b d →
    role o q t ≡ InBuffer g k → Begins g d → ⊥
row_unbegun o t b d g k q may e z =
    (may_as o t b d (NewGroup g z.0 z.1 z.2) z.3 may).no_row q k e

pub rows_have_lanes : RowsHaveLanes
rows_have_lanes o [] valid g k q e = absurd (opening_role-buffer o q g k e)
rows_have_lanes o (x ∷ t) valid g k q e = ⊎_elim
    (λ (there : role o q t ≡ InBuffer g k).
    some_same o g k t (event x.by x.action ∷ t)
    (begun_on o t x.by x.action g (row_unbegun o t x.by x.action g k q valid.0 there))
    (rows_have_lanes o t valid.1 g k q there))
    (λ (is : IsLinkOf g q k x.action). linked x.by x.action valid.0 is)
    (row_back o t x.by x.action q g k e)
  where
    linked : (b : ℕ) (d : Action) → Allowed o t b d → IsLinkOf g q k d →
        HasSomeLane o g k (event b d ∷ t)
    linked b d may is =
        let m = may_as o t b d (LinkRow g is.lane q is.change is.before is.next) is.is may in
        some_same o g k t (event b d ∷ t)
        (begun_on o t b d g (λ z. let one = is.is in let two = z.3 in cc))
        (is.lane, subst (λ (y : ℕ). HasLane o g is.lane y t) is.key m.in_lane)

-- ---- lanes stay ----

pub until_begun : LanesStayUntilBegun
until_begun o g which [] t never = refl
until_begun o g which (x ∷ n) t never =
    begun_on o (n ++ t) x.by x.action g never.0 which ∙ until_begun o g which n t never.1

pub lanes_while : LanesStay
lanes_while o c g which is [] t valid stay s = refl
lanes_while o c g which is (x ∷ n) t valid stay s =
    begun_on o (n ++ t) x.by x.action g
    (λ z. (may_as o (n ++ t) x.by x.action (NewGroup g z.0 z.1 z.2) z.3 valid.0).gone.empty c is
    (stands_in_on c g n t stay.1 s)) which
    ∙ lanes_while o c g which is n t valid.1 stay.1 s
