-- The three barriers of a rebuild, and that of the root's unused side.
use Rattle.std.proofs.Common.{◌≡◌, ℕ, ◌⊎◌, inl, inr, ⊎_elim, Some, true, ◌∷◌, refl, sym, ap, ◌∙◌}
use Rattle.std.proofs.Common.{subst}
use Rattle.index_machine.specs.Conditions.{Allowed, Valid}
use Rattle.index_machine.specs.Execution.{Execution, event, own}
use Rattle.index_machine.specs.Forms.{Redirect}
use Rattle.index_machine.specs.Groups.{IsInUse, phase, rebuild, slot}
use Rattle.index_machine.specs.KeyRanges.{group_of}
use Rattle.index_machine.specs.Permissions.{IsGone, IsReachable, MayInsertInto}
use Rattle.index_machine.specs.Places.{form}
use Rattle.index_machine.specs.Reaching.{SeesSlot, reached, root_seen, saw_open, saw_opened}
use Rattle.index_machine.specs.Reaching.{stands_in}
use Rattle.index_machine.specs.RecordConditions.{IsInArrayOf}
use Rattle.index_machine.specs.Rows.{InArray, InBuffer, role}
use Rattle.index_machine.specs.Sections.{IsCaller, IsInside, crossings}
use Rattle.index_machine.specs.declared.events.Action.{Action}
use Rattle.index_machine.specs.declared.events.Action.TheVariants.{Freeze, LoadPhase, NewGroup}
use Rattle.index_machine.specs.declared.events.Action.TheVariants.{StoreOpened, Thaw}
use Rattle.index_machine.specs.declared.opening.Opening.{Opening}
use Rattle.machine_barriers.proofs.Gains.{reached_gain, root_seen_gain, stands_in_gain}
use Rattle.machine_barriers.proofs.GracePeriods.{relied_on_by_none}
use Rattle.machine_barriers.proofs.OpenedGroups.{MadeBefore, SeesInsert, begun_back, frozen_not}
use Rattle.machine_barriers.proofs.OpenedGroups.{insert_gain, made_back}
use Rattle.machine_barriers.proofs.OpenedGroups.{named_back, open_not, opened_back}
use Rattle.machine_barriers.proofs.OpenedGroups.{opened_groups_hold, opened_is}
use Rattle.machine_barriers.proofs.Reaches.{loads_group, loads_phase, loads_place, loads_root}
use Rattle.machine_barriers.proofs.Reaches.{may_as, reached-inside, root_seen-inside}
use Rattle.machine_barriers.proofs.Reaches.{saw_open-inside, saw_opened-inside, stands_in-inside}
use Rattle.machine_barriers.specs.Barriers.{BarrierEndsUnusedSide, FirstBarrierEndsInserts}
use Rattle.machine_barriers.specs.Barriers.{IsShutBy, IsShutForInserts, IsShutForOldGroups}
use Rattle.machine_barriers.specs.Barriers.{IsShutForOldPlace, IsShutForSide, ReliesOnOld}
use Rattle.machine_barriers.specs.Barriers.{SecondBarrierEndsOldGroups, StandsOnSide}
use Rattle.machine_barriers.specs.Barriers.{ThirdBarrierEndsOldPlaces}
use Rattle.machine_barriers.specs.Gains.{LoadsGroup, LoadsPlace, LoadsRoot, SeesOpen, SeesOpened}
use Rattle.word_layout.specs.Phase.{word_of_phase}
use Rattle.word_layout.specs.declared.phase.Phase.TheVariants.{Frozen, Open, Opened}

-- ---- inserts ----

-- the rebuild that made a group of the chain made it before
made_before : (o : Opening) (t : Execution) (b g : ℕ) (d : Action) → Allowed o t b d →
    ((k : ℕ) × (group_of o k t ≡ g)) → MadeBefore g b d t
made_before o t b g (NewGroup h low high i) may own f e =
    made_back h g (Some i) (rebuild g t) f (λ z. may.gone.unowned own.0 (own.1 ∙ sym z)) e
made_before o t b g d may own f e = e

inserts-shut : (o : Opening) (g : ℕ) →
    IsShutBy o (λ c t. MayInsertInto c g t) (IsShutForInserts g o)
inserts-shut o g t b d valid may shut c is l =
    let z = insert_gain c g b d t (made_before o t b g d may shut.chained) l in (
      ⊎_elim (λ (w : MayInsertInto c g t). w)
          (λ (w : (b ≡ c) × SeesInsert g d t).
          let mine : Allowed o t c d = subst (λ (y : ℕ). Allowed o t y d) w.0 may in
          ⊎_elim
          (λ (v : SeesOpen g d).
          let m = loads_phase o c g (word_of_phase Open) Open t is
          (may_as o t c d (LoadPhase g (word_of_phase Open)) v mine) refl in
          let bad : Frozen ≡ Open = sym shut.frozen ∙ m.2 in cc)
          (λ (v : (f : ℕ) × (rebuild g t ≡ Some f) × SeesOpened f d).
          let h : ℕ = v.2.0 in
          let m = loads_phase o c h (word_of_phase (Opened v.0)) (Opened v.0) t is
          (may_as o t c d (LoadPhase h (word_of_phase (Opened v.0))) v.2.1 mine) refl in
          absurd ((shut.past h v.0 m.2 v.1).empty c is m.1))
          w.1)
          z.1,
      z.0,
    )

pub insert-inside : (o : Opening) (g : ℕ) (t : Execution) → Valid o t → (c : ℕ) →
    IsCaller o c → MayInsertInto c g t → IsInside c t
insert-inside o g t valid c is l =
    ⊎_elim (λ (e : saw_open c g t ≡ true). saw_open-inside o c g t is valid e)
    (λ (e : (f : ℕ) × (rebuild g t ≡ Some f) × (saw_opened c f t ≡ true)).
    saw_opened-inside o c e.0 t is valid e.2) l

pub first_barrier : FirstBarrierEndsInserts
first_barrier o g n t valid shut quiescent =
    relied_on_by_none o (λ c t. MayInsertInto c g t) (IsShutForInserts g o) (inserts-shut o g)
    (λ t v c is l. insert-inside o g t v c is l) n t valid shut quiescent

-- ---- old groups ----

-- no group becomes one of the rebuild's old ones any more
pub old_before : (o : Opening) (f : ℕ) (t : Execution) (b g : ℕ) (d : Action) → Allowed o t b d →
    IsShutForOldGroups f o t → phase g (event b d ∷ t) ≡ Opened f → phase g t ≡ Opened f
old_before o f t b g (Freeze h) may shut e = (opened_back h g Frozen (phase g t) f frozen_not e).1
old_before o f t b g (Thaw h) may shut e = (opened_back h g Open (phase g t) f open_not e).1
old_before o f t b g (NewGroup h low high i) may shut e = (begun_back h g (phase g t) f e).2
old_before o f t b g (StoreOpened h i) may shut e =
    (opened_back h g (Opened i) (phase g t) f
    (λ z. let s = shut.installed in
    may.unchained s.0 s.1 (s.2 ∙ ap Some (sym (opened_is z))) s.3) e).1
old_before o f t b g d may shut e = e

-- a slot of the root that names an old group named it before
seen_back : (o : Opening) (f : ℕ) (t : Execution) (b g c : ℕ) (d : Action) → Valid o t →
    Allowed o t b d → IsShutForOldGroups f o t → phase g t ≡ Opened f → IsCaller o c →
    (part side i : ℕ) → SeesSlot c part side i (event b d ∷ t) → slot o part side i (event b d ∷ t) ≡ g →
    ReliesOnOld o f c t × (crossings c (event b d ∷ t) ≡ crossings c t)
seen_back o f t b g c d valid may shut at is part side i s e =
    let before = named_back o t b d may g f at
    (λ k z. shut.unowned k (ap (λ (y : ℕ). phase y t) z ∙ at)) part side i
    (inr (c, is, s)) e in
    let z = root_seen_gain c part s.0 b d t s.1 in (
      ⊎_elim
          (λ (w : root_seen c part t ≡ Some s.0). (g, at, inr (part, side, i, (s.0, w, s.2), before.1)))
          (λ (w : (b ≡ c) × LoadsRoot part s.0 d).
          let m = loads_root o c part s.0 d t is (subst (λ (y : ℕ). Allowed o t y d) w.0 may) w.1 in
          absurd (shut.unnamed part side i (subst (λ (y : ℕ). IsInUse y side i) (sym m.1) s.2)
          (ap (λ (y : ℕ). phase y t) before.1 ∙ at)))
          z.1,
      z.0,
    )

old_groups-shut : (o : Opening) (f : ℕ) → IsShutBy o (ReliesOnOld o f) (IsShutForOldGroups f o)
old_groups-shut o f t b d valid may shut c is l = go l.0 (old_before o f t b l.0 d may shut l.1) l.2
  where
    reached_old : (g : ℕ) → phase g t ≡ Opened f → IsReachable o c g t → ReliesOnOld o f c t
    reached_old g at r =
        ⊎_elim
        (λ (z : (k : ℕ) × (group_of o k t ≡ g)).
        absurd (shut.unowned z.0 (ap (λ (y : ℕ). phase y t) z.1 ∙ at)))
        (λ (y : ((part : ℕ) × (side : ℕ) × (i : ℕ) × SeesSlot c part side i t × (slot o part side i t ≡ g))
        ⊎ (((j : ℕ) × (e : ℕ) × (stands_in c j t ≡ true) × (phase j t ≡ Opened e)
        × (phase g t ≡ Opened e))
        ⊎ (((e : ℕ) × (rebuild g t ≡ Some e) × (saw_opened c e t ≡ true))
        ⊎ ((j : ℕ) × (stands_in c j t ≡ true) × (phase j t ≡ Opened g))))).
        ⊎_elim
        (λ (z : (part : ℕ) × (side : ℕ) × (i : ℕ) × SeesSlot c part side i t × (slot o part side i t ≡ g)).
        (g, at, inr (z.0, z.1, z.2, z.3, z.4)))
        (λ (x : ((j : ℕ) × (e : ℕ) × (stands_in c j t ≡ true) × (phase j t ≡ Opened e)
        × (phase g t ≡ Opened e))
        ⊎ (((e : ℕ) × (rebuild g t ≡ Some e) × (saw_opened c e t ≡ true))
        ⊎ ((j : ℕ) × (stands_in c j t ≡ true) × (phase j t ≡ Opened g)))).
        ⊎_elim
        (λ (z : (j : ℕ) × (e : ℕ) × (stands_in c j t ≡ true) × (phase j t ≡ Opened e)
        × (phase g t ≡ Opened e)).
        let same : z.1 ≡ f = opened_is (sym z.4 ∙ at) in
        (z.0, z.3 ∙ ap (λ (y : ℕ). Opened y) same, inl z.2))
        (λ (w : ((e : ℕ) × (rebuild g t ≡ Some e) × (saw_opened c e t ≡ true))
        ⊎ ((j : ℕ) × (stands_in c j t ≡ true) × (phase j t ≡ Opened g))).
        let holds = opened_groups_hold o t valid in
        ⊎_elim
        (λ (z : (e : ℕ) × (rebuild g t ≡ Some e) × (saw_opened c e t ≡ true)).
        absurd (holds.closed c g is (inr z) f at))
        (λ (z : (j : ℕ) × (stands_in c j t ≡ true) × (phase j t ≡ Opened g)).
        absurd ((holds.past g f z.0 g at (holds.named z.0 g z.2) z.2).empty c is z.1))
        w) x) y) r

    go : (g : ℕ) → phase g t ≡ Opened f →
        (stands_in c g (event b d ∷ t) ≡ true)
        ⊎ ((part : ℕ) × (side : ℕ) × (i : ℕ) × SeesSlot c part side i (event b d ∷ t)
        × (slot o part side i (event b d ∷ t) ≡ g)) →
        ReliesOnOld o f c t × (crossings c (event b d ∷ t) ≡ crossings c t)
    go g at how =
        ⊎_elim
        (λ (s : stands_in c g (event b d ∷ t) ≡ true).
        let z = stands_in_gain c g b d t s in (
          ⊎_elim (λ (w : stands_in c g t ≡ true). (g, at, inl w))
              (λ (w : (b ≡ c) × LoadsGroup g d).
              reached_old g at
              (loads_group o c g d t is (subst (λ (y : ℕ). Allowed o t y d) w.0 may) w.1).1)
              z.1,
          z.0,
        ))
        (λ (s : (part : ℕ) × (side : ℕ) × (i : ℕ) × SeesSlot c part side i (event b d ∷ t)
        × (slot o part side i (event b d ∷ t) ≡ g)).
        seen_back o f t b g c d valid may shut at is s.0 s.1 s.2 s.3 s.4)
        how

pub old-inside : (o : Opening) (f : ℕ) (t : Execution) → Valid o t → (c : ℕ) → IsCaller o c →
    ReliesOnOld o f c t → IsInside c t
old-inside o f t valid c is l =
    ⊎_elim (λ (s : stands_in c l.0 t ≡ true). stands_in-inside o c l.0 t is valid s)
    (λ (s : (part : ℕ) × (side : ℕ) × (i : ℕ) × SeesSlot c part side i t × (slot o part side i t ≡ l.0)).
    root_seen-inside o c s.0 s.3.0 t is valid s.3.1) l.2

pub second_barrier : SecondBarrierEndsOldGroups
second_barrier o f n t valid shut quiescent =
    relied_on_by_none o (ReliesOnOld o f) (IsShutForOldGroups f o) (old_groups-shut o f)
    (λ t v c is l. old-inside o f t v c is l) n t valid shut quiescent

-- ---- old places ----

old_place-shut : (o : Opening) (p : ℕ) →
    IsShutBy o (λ c t. reached c p t ≡ true) (IsShutForOldPlace p o)
old_place-shut o p t b d valid may shut c is l =
    let z = reached_gain c p b d t l in (
      ⊎_elim (λ (w : reached c p t ≡ true). w)
          (λ (w : (b ≡ c) × LoadsPlace p d).
          ⊎_elim
          (λ (v : (a : ℕ) × (y : ℕ) × IsInArrayOf o c a t × (form o a t ≡ Redirect p y)).
          absurd (shut.no_target v.0 v.1 v.3))
          (λ (v : (g : ℕ) × (k : ℕ) × (stands_in c g t ≡ true) × (role o p t ≡ InBuffer g k)).
          absurd ((in_gone v.0 v.1 v.3).empty c is v.2))
          (loads_place o c p d t is (subst (λ (y : ℕ). Allowed o t y d) w.0 may) w.1).1)
          z.1,
      z.0,
    )
  where
    in_gone : (g k : ℕ) → role o p t ≡ InBuffer g k → IsGone o g t
    in_gone g k e =
        let s = shut.old in
        ⊎_elim
        (λ (y : role o p t ≡ InArray s.0 s.2).
        let bad : InArray s.0 s.2 ≡ InBuffer g k = sym y ∙ e in cc)
        (λ (y : role o p t ≡ InBuffer s.0 s.2).
        let two : InBuffer s.0 s.2 ≡ InBuffer g k = sym y ∙ e in
        let same : s.0 ≡ g = cc in subst (λ (i : ℕ). IsGone o i t) same (s.5 s.0 s.4))
        s.3

pub third_barrier : ThirdBarrierEndsOldPlaces
third_barrier o p n t valid shut quiescent =
    relied_on_by_none o (λ c t. reached c p t ≡ true) (IsShutForOldPlace p o) (old_place-shut o p)
    (λ t v c is l. reached-inside o c p t is v l) n t valid shut quiescent

-- ---- the unused side ----

side-shut : (o : Opening) (part side : ℕ) →
    IsShutBy o (StandsOnSide part side) (IsShutForSide part side o)
side-shut o part side t b d valid may shut c is l =
    let s = l.1 in let z = root_seen_gain c part s.0 b d t s.1 in (
      ⊎_elim (λ (w : root_seen c part t ≡ Some s.0). (l.0, (s.0, w, s.2)))
          (λ (w : (b ≡ c) × LoadsRoot part s.0 d).
          let m = loads_root o c part s.0 d t is (subst (λ (y : ℕ). Allowed o t y d) w.0 may) w.1 in
          absurd (shut l.0 (subst (λ (y : ℕ). IsInUse y side l.0) (sym m.1) s.2)))
          z.1,
      z.0,
    )

pub side_barrier : BarrierEndsUnusedSide
side_barrier o part side n t valid shut quiescent =
    relied_on_by_none o (StandsOnSide part side) (IsShutForSide part side o) (side-shut o part side)
    (λ t v c is l. root_seen-inside o c part l.1.0 t is v l.1.1) n t valid shut quiescent
