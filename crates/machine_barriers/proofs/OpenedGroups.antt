-- Nobody may insert into an opened group, and of the rebuild that made an opened group nothing is
-- left. Gone groups of one rebuild stay gone, all together.
use Rattle.std.proofs.Common.{◌≡◌, ◌≢◌, ℕ, ◌⊎◌, inl, inr, ⊎_elim, Option, Some, Bool, true, false}
use Rattle.std.proofs.Common.{[], ◌∷◌, cond, refl, sym, ap, ◌∙◌, subst}
use Rattle.std.specs.Prelude.{◌&&◌, ◌==◌}
use mathlib.Core.Logic.{dite}
use native.Mathlib.Decide.{ℕ_discrete}
use Rattle.index_machine.proofs.Executions.{choice-other, choice-same}
use Rattle.index_machine.specs.Conditions.{Allowed, Valid}
use Rattle.index_machine.specs.Execution.{Execution, event}
use Rattle.index_machine.specs.Groups.{IsInUse, name_used_again, phase, rebuild, root, same_slot}
use Rattle.index_machine.specs.Groups.{slot, unless_named}
use Rattle.index_machine.specs.KeyRanges.{group_of, or_else, successor}
use Rattle.index_machine.specs.Openings.{within}
use Rattle.index_machine.specs.Permissions.{AreGone, IsGone, IsReachable, IsReadableSlot}
use Rattle.index_machine.specs.Permissions.{MayInsertInto}
use Rattle.index_machine.specs.Reaching.{SeesSlot, root_seen, saw_open, saw_opened, stands_in}
use Rattle.index_machine.specs.RebuildConditions.{IsUnusedSide, MayInstall, MayStoreUnused}
use Rattle.index_machine.specs.Sections.{IsCaller, crossings}
use Rattle.index_machine.specs.declared.events.Action.{Action}
use Rattle.index_machine.specs.declared.events.Action.TheVariants.{Freeze, Install, LoadPhase}
use Rattle.index_machine.specs.declared.events.Action.TheVariants.{NewGroup, StoreOpened, StoreRoot}
use Rattle.index_machine.specs.declared.events.Action.TheVariants.{StoreSlot, StoreUnusedGroup}
use Rattle.index_machine.specs.declared.events.Action.TheVariants.{Thaw}
use Rattle.index_machine.specs.declared.events.InstallWord.{InstallWord}
use Rattle.index_machine.specs.declared.events.InstallWord.TheVariants.{FirstSlot, NextOf}
use Rattle.index_machine.specs.declared.opening.Opening.{Opening}
use Rattle.machine_barriers.proofs.Gains.{both_are, root_seen_gain, saw_open_gain, saw_opened_gain}
use Rattle.machine_barriers.proofs.Gains.{stands_in_gain, test_is}
use Rattle.machine_barriers.proofs.Reaches.{loads_group, loads_phase, loads_root, may_as}
use Rattle.machine_barriers.specs.Barriers.{OpenedGroupsHold}
use Rattle.machine_barriers.specs.Gains.{LoadsGroup, LoadsRoot, SeesOpen, SeesOpened}
use Rattle.index_machine.proofs.Options.{named_before, some_is, still_named}
use Rattle.word_layout.specs.Phase.{word_of_phase}
use Rattle.word_layout.specs.declared.phase.Phase.{Phase}
use Rattle.word_layout.specs.declared.phase.Phase.TheVariants.{Frozen, Open, Opened}

-- ---- phases that are set ----

pub open_not : {X : Type 0} {f : ℕ} → Open ≡ Opened f → X
open_not e = cc

pub frozen_not : {X : Type 0} {f : ℕ} → Frozen ≡ Opened f → X
frozen_not e = cc

pub opened_is : {f e : ℕ} → Opened f ≡ Opened e → f ≡ e
opened_is e = cc

-- a phase that was set to another than this opened one
pub opened_back : (h g : ℕ) (x y : Phase) (f : ℕ) → (x ≡ Opened f → ⊥) →
    cond (h == g) x y ≡ Opened f → (h ≢ g) × (y ≡ Opened f)
opened_back h g x y f never e =
    dite (ℕ_discrete h g)
    (λ (z : h ≡ g). absurd (never (sym (choice-same h g x y z) ∙ e)))
    (λ (n : h ≢ g). (n, sym (choice-other h g x y n) ∙ e))

-- an opened phase of a rebuild whose name is not used again
pub used_again_back : (i : ℕ) (x : Phase) (f : ℕ) → name_used_again i x ≡ Opened f →
    (f ≢ i) × (x ≡ Opened f)
used_again_back i Open f e = open_not e
used_again_back i Frozen f e = frozen_not e
used_again_back i (Opened g) f e =
    dite (ℕ_discrete g i)
    (λ (z : g ≡ i). open_not (sym (choice-same g i Open (Opened g) z) ∙ e))
    (λ (n : g ≢ i).
    let same : g ≡ f = opened_is (sym (choice-other g i Open (Opened g) n) ∙ e) in
    ((λ z. n (same ∙ z)), ap (λ (y : ℕ). Opened y) same))

-- the phase before a group was begun anew
pub begun_back : (i g : ℕ) (x : Phase) (f : ℕ) →
    cond (i == g) Open (name_used_again i x) ≡ Opened f → (i ≢ g) × (f ≢ i) × (x ≡ Opened f)
begun_back i g x f e =
    let w = opened_back i g Open (name_used_again i x) f open_not e in
    let v = used_again_back i x f w.1 in (w.0, v.0, v.1)

-- ---- the rebuild that made a group ----

-- what made the group after this action made it before
abbrev pub MadeBefore : ℕ → ℕ → Action → Execution → Type 0
MadeBefore g b d t = (f : ℕ) → rebuild g (event b d ∷ t) ≡ Some f → rebuild g t ≡ Some f

-- the rebuild of a group that is not the one begun anew
pub made_back : (i g : ℕ) (new x : Option ℕ) (f : ℕ) → i ≢ g →
    cond (i == g) new (unless_named i x) ≡ Some f → x ≡ Some f
made_back i g new x f n e =
    (named_before i x f (sym (choice-other i g new (unless_named i x) n) ∙ e)).1

-- it is still the one that made the group, unless a group is begun anew by whose number it is named
pub made_still : (i g : ℕ) (new x : Option ℕ) (f : ℕ) → i ≢ g → f ≢ i → x ≡ Some f →
    cond (i == g) new (unless_named i x) ≡ Some f
made_still i g new x f n other e =
    choice-other i g new (unless_named i x) n ∙ still_named i x f other e

-- ---- how a hand comes to have an insert permission ----

-- the hand has it by its own load of a phase
abbrev pub SeesInsert : ℕ → Action → Execution → Type 0
SeesInsert g d t = SeesOpen g d ⊎ ((f : ℕ) × (rebuild g t ≡ Some f) × SeesOpened f d)

pub insert_gain : (c g b : ℕ) (d : Action) (t : Execution) →
    MadeBefore g b d t → MayInsertInto c g (event b d ∷ t) →
    (crossings c (event b d ∷ t) ≡ crossings c t)
    × (MayInsertInto c g t ⊎ ((b ≡ c) × SeesInsert g d t))
insert_gain c g b d t before l =
    ⊎_elim
    (λ (e : saw_open c g (event b d ∷ t) ≡ true). let z = saw_open_gain c g b d t e in (
      z.0,
      ⊎_elim (λ (w : saw_open c g t ≡ true). inl (inl w))
          (λ (w : (b ≡ c) × SeesOpen g d). inr (w.0, inl w.1)) z.1,
    ))
    (λ (e : (f : ℕ) × (rebuild g (event b d ∷ t) ≡ Some f)
    × (saw_opened c f (event b d ∷ t) ≡ true)).
    let from : rebuild g t ≡ Some e.0 = before e.0 e.1 in
    let z = saw_opened_gain c e.0 b d t e.2 in (
      z.0,
      ⊎_elim (λ (w : saw_opened c e.0 t ≡ true). inl (inr (e.0, from, w)))
          (λ (w : (b ≡ c) × SeesOpened e.0 d). inr (w.0, inr (e.0, from, w.1))) z.1,
    ))
    l

-- a hand that has an insert permission in a group that was opened before had it before
closed_else : (o : Opening) (t : Execution) (b : ℕ) (d : Action) → Allowed o t b d →
    OpenedGroupsHold o t → (c g : ℕ) → IsCaller o c →
    MadeBefore g b d t → MayInsertInto c g (event b d ∷ t) → (f : ℕ) →
    phase g t ≡ Opened f → ⊥
closed_else o t b d may old c g is before l f e =
    ⊎_elim (λ (z : MayInsertInto c g t). old.closed c g is z f e)
    (λ (z : (b ≡ c) × SeesInsert g d t).
    let mine : Allowed o t c d = subst (λ (y : ℕ). Allowed o t y d) z.0 may in
    ⊎_elim
    (λ (w : SeesOpen g d).
    let m = loads_phase o c g (word_of_phase Open) Open t is
    (may_as o t c d (LoadPhase g (word_of_phase Open)) w mine) refl in
    open_not (sym m.2 ∙ e))
    (λ (w : (i : ℕ) × (rebuild g t ≡ Some i) × SeesOpened i d).
    let h : ℕ = w.2.0 in
    let m = loads_phase o c h (word_of_phase (Opened w.0)) (Opened w.0) t is
    (may_as o t c d (LoadPhase h (word_of_phase (Opened w.0))) w.2.1 mine) refl in
    (old.past g f h w.0 e w.1 m.2).empty c is m.1)
    z.1)
    (insert_gain c g b d t before l).1

closed_step : (o : Opening) (t : Execution) (b : ℕ) (d : Action) → Allowed o t b d →
    OpenedGroupsHold o t → (c g : ℕ) → IsCaller o c → MayInsertInto c g (event b d ∷ t) →
    (f : ℕ) → phase g (event b d ∷ t) ≢ Opened f
closed_step o t b (Freeze h) may old c g is l f e =
    closed_else o t b (Freeze h) may old c g is (λ j r. r) l f
    (opened_back h g Frozen (phase g t) f frozen_not e).1
closed_step o t b (Thaw h) may old c g is l f e =
    closed_else o t b (Thaw h) may old c g is (λ j r. r) l f
    (opened_back h g Open (phase g t) f open_not e).1
closed_step o t b (NewGroup h low high i) may old c g is l f e =
    let w = begun_back h g (phase g t) f e in
    closed_else o t b (NewGroup h low high i) may old c g is
    (λ j r. made_back h g (Some i) (rebuild g t) j w.0 r) l f w.2
closed_step o t b (StoreOpened h i) may old c g is l f e =
    dite (ℕ_discrete h g)
    (λ (z : h ≡ g).
    ⊎_elim
    (λ (w : MayInsertInto c g t).
    may.closed c is (subst (λ (y : ℕ). MayInsertInto c y t) (sym z) w))
    (λ (w : (b ≡ c) × SeesInsert g (StoreOpened h i) t).
    ⊎_elim (λ (v : SeesOpen g (StoreOpened h i)). let bad = v in cc)
    (λ (v : (j : ℕ) × (rebuild g t ≡ Some j) × SeesOpened j (StoreOpened h i)).
    let bad = v.2.1 in cc) w.1)
    (insert_gain c g b (StoreOpened h i) t (λ j r. r) l).1)
    (λ (n : h ≢ g). closed_else o t b (StoreOpened h i) may old c g is (λ j r. r) l f
    (sym (choice-other h g (Opened i) (phase g t) n) ∙ e))
closed_step o t b d may old c g is l f e = closed_else o t b d may old c g is (λ j r. r) l f e

-- ---- gone groups stay gone ----

-- the group of a key
unowned_on : (o : Opening) (t : Execution) (b : ℕ) (d : Action) → Allowed o t b d →
    (h f : ℕ) → phase h t ≡ Opened f → IsGone o h t → (k : ℕ) →
    group_of o k (event b d ∷ t) ≢ h
unowned_on o t b (Install spot lead low high) may h f at gone k z = go (within low k high) refl
  where
    here : ℕ
    here = cond (within low k high) (or_else (successor k t) (group_of o k t)) (group_of o k t)

    go : (w : Bool) → within low k high ≡ w → ⊥
    go false out =
        gone.unowned k
        (sym (ap (λ (y : Bool). cond y (or_else (successor k t) (group_of o k t))
        (group_of o k t)) out)
        ∙ z)
    go true is =
        let m = may.opened k is in
        let same : here ≡ m.1 =
        ap (λ (y : Bool). cond y (or_else (successor k t) (group_of o k t)) (group_of o k t)) is
        ∙ ap (λ (y : Option ℕ). or_else y (group_of o k t)) m.3 in
        open_not (sym m.5 ∙ (ap (λ (y : ℕ). phase y t) (sym same ∙ z) ∙ at))
unowned_on o t b d may h f at gone k z = gone.unowned k z

-- a slot that can be loaded could be before, or the root word was stored
readable_back : (o : Opening) (t : Execution) (b : ℕ) (d : Action) → Allowed o t b d →
    (part side i : ℕ) → IsReadableSlot o part side i (event b d ∷ t) →
    IsReadableSlot o part side i t
    ⊎ ((w : ℕ) × (d ≡ StoreRoot part w) × IsInUse w side i)
readable_back o t b d may part side i r =
    ⊎_elim (λ (z : IsInUse (root o part (event b d ∷ t)) side i). present d z)
    (λ (z : (c : ℕ) × IsCaller o c × SeesSlot c part side i (event b d ∷ t)). inl (seen z.0 z.1 z.2)) r
  where
    present : (d : Action) → IsInUse (root o part (event b d ∷ t)) side i →
        IsReadableSlot o part side i t ⊎ ((w : ℕ) × (d ≡ StoreRoot part w) × IsInUse w side i)
    present (StoreRoot q w) z = dite (ℕ_discrete q part)
        (λ (here : q ≡ part).
        inr (
          w,
          ap (λ (p : ℕ). StoreRoot p w) here,
          subst (λ (x : ℕ). IsInUse x side i) (choice-same q part w (root o part t) here) z,
        ))
        (λ (there : q ≢ part).
        inl (inl (subst (λ (x : ℕ). IsInUse x side i) (choice-other q part w (root o part t) there)
        z)))
    present d z = inl (inl z)

    seen : (c : ℕ) → IsCaller o c → SeesSlot c part side i (event b d ∷ t) →
        IsReadableSlot o part side i t
    seen c is z =
        ⊎_elim (λ (w : root_seen c part t ≡ Some z.0). inr (c, is, (z.0, w, z.2)))
        (λ (w : (b ≡ c) × LoadsRoot part z.0 d).
        let m = loads_root o c part z.0 d t is (subst (λ (y : ℕ). Allowed o t y d) w.0 may) w.1 in
        inl (subst (λ (y : ℕ). IsInUse y side i) (sym m.1) z.2))
        (root_seen_gain c part z.0 b d t z.1).1

slot_is : (q s j part side i : ℕ) → same_slot q s j part side i ≡ true →
    (q ≡ part) × (s ≡ side) × (j ≡ i)
slot_is q s j part side i e =
    let v = both_are (q == part) ((s == side) && (j == i)) e in
    let w = both_are (s == side) (j == i) v.1 in
    (test_is q part v.0, test_is s side w.0, test_is j i w.1)

choose : (w : Bool) (a b h : ℕ) → cond w a b ≡ h → ((w ≡ true) × (a ≡ h)) ⊎ (b ≡ h)
choose true a b h e = inl (refl, e)
choose false a b h e = inr e

-- the install names a new group, which is open
pub lead_open : (o : Opening) (t : Execution) (b : ℕ) (spot : InstallWord)
    (lead low high : ℕ) → MayInstall o t b spot lead low high → phase lead t ≡ Open
lead_open o t b spot lead low high may =
    let s = may.first in let m = may.opened low s.0 in
    ap (λ (y : ℕ). phase y t) (some_is (sym s.1 ∙ m.3)) ∙ m.5

-- a slot that can be loaded, and names the group, named it before and could be loaded
pub slot_back : (o : Opening) (t : Execution) (b : ℕ) (d : Action) → Allowed o t b d →
    (h : ℕ) →
    ((q s lead low high : ℕ) → MayInstall o t b (FirstSlot q s) lead low high → lead ≡ h → ⊥) →
    ((k : ℕ) → group_of o k t ≢ h) → (part side i : ℕ) → IsReadableSlot o part side i (event b d ∷ t) →
    slot o part side i (event b d ∷ t) ≡ h →
    IsReadableSlot o part side i t × (slot o part side i t ≡ h)
slot_back o t b d may h not_led unowned part side i r e = written d may e
    (readable_back o t b d may part side i r)
  where
    same : (d : Action) → Allowed o t b d → slot o part side i t ≡ h →
        ((w : ℕ) → d ≡ StoreRoot part w → IsInUse w side i → ⊥) →
        IsReadableSlot o part side i t ⊎ ((w : ℕ) × (d ≡ StoreRoot part w) × IsInUse w side i) →
        IsReadableSlot o part side i t × (slot o part side i t ≡ h)
    same d may e never r =
        ⊎_elim (λ (z : IsReadableSlot o part side i t). (z, e))
        (λ (z : (w : ℕ) × (d ≡ StoreRoot part w) × IsInUse w side i). absurd (never z.0 z.1 z.2)) r

    written : (d : Action) → Allowed o t b d → slot o part side i (event b d ∷ t) ≡ h →
        IsReadableSlot o part side i t ⊎ ((w : ℕ) × (d ≡ StoreRoot part w) × IsInUse w side i) →
        IsReadableSlot o part side i t × (slot o part side i t ≡ h)
    written (StoreSlot q s j g) may e r =
        ⊎_elim
        (λ (z : (same_slot q s j part side i ≡ true) × (g ≡ h)).
        let c = may.chained in absurd (unowned c.0 (c.2 ∙ z.1)))
        (λ (z : slot o part side i t ≡ h).
        same (StoreSlot q s j g) may z (λ w bad _. let no = bad in cc) r)
        (choose (same_slot q s j part side i) g (slot o part side i t) h e)
    written (StoreUnusedGroup q s j g) may e r =
        ⊎_elim
        (λ (z : (same_slot q s j part side i ≡ true) × (g ≡ h)).
        let p = slot_is q s j part side i z.0 in absurd (unread q s p.0 p.1 may r))
        (λ (z : slot o part side i t ≡ h).
        same (StoreUnusedGroup q s j g) may z (λ w bad _. let no = bad in cc) r)
        (choose (same_slot q s j part side i) g (slot o part side i t) h e)
      where
        unread : (q s : ℕ) → q ≡ part → s ≡ side → MayStoreUnused o t b q s j →
            IsReadableSlot o part side i t
            ⊎ ((w : ℕ) × (StoreUnusedGroup q s j g ≡ StoreRoot part w) × IsInUse w side i) → ⊥
        unread q s here p m r =
            let u : IsUnusedSide o part side t =
            subst (λ (x : ℕ). IsUnusedSide o x side t) here
            (subst (λ (y : ℕ). IsUnusedSide o q y t) p m.unused)
            in
            ⊎_elim
            (λ (z : IsReadableSlot o part side i t).
            ⊎_elim (λ (w : IsInUse (root o part t) side i). u.not_present i w)
            (λ (w : (c : ℕ) × IsCaller o c × SeesSlot c part side i t). u.empty w.0 i w.1 w.2) z)
            (λ (z : (w : ℕ) × (StoreUnusedGroup q s j g ≡ StoreRoot part w) × IsInUse w side i).
            let bad = z.1 in cc) r
    written (Install (NextOf left) lead low high) may e r =
        same (Install (NextOf left) lead low high) may e (λ w bad _. let no = bad in cc) r
    written (Install (FirstSlot q s) lead low high) may e r =
        ⊎_elim
        (λ (z : (same_slot q s 0 part side i ≡ true) × (lead ≡ h)).
        absurd (not_led q s lead low high may z.1))
        (λ (z : slot o part side i t ≡ h).
        same (Install (FirstSlot q s) lead low high) may z (λ w bad _. let no = bad in cc) r)
        (choose (same_slot q s 0 part side i) lead (slot o part side i t) h e)
    written (StoreRoot q w) may e r =
        same (StoreRoot q w) may e
        (λ v is in_use.
        let same = root_is is in
        let c = may.chained side i (subst (λ (y : ℕ). IsInUse y side i) same.1 in_use) in
        unowned c.0 (c.2 ∙ ap (λ (p : ℕ). slot o p side i t) same.0 ∙ e)) r
      where
        root_is : {p v : ℕ} → StoreRoot q w ≡ StoreRoot p v → (q ≡ p) × (v ≡ w)
        root_is e = (cc, cc)
    written d may e r = same d may e (λ w bad _. let no = bad in cc) r

pub named_back : (o : Opening) (t : Execution) (b : ℕ) (d : Action) → Allowed o t b d →
    (h f : ℕ) → phase h t ≡ Opened f → ((k : ℕ) → group_of o k t ≢ h) → (part side i : ℕ) →
    IsReadableSlot o part side i (event b d ∷ t) → slot o part side i (event b d ∷ t) ≡ h →
    IsReadableSlot o part side i t × (slot o part side i t ≡ h)
named_back o t b d may h f at unowned part side i r e =
    slot_back o t b d may h
    (λ q s lead low high m z. open_not (sym (lead_open o t b (FirstSlot q s) lead low high m)
    ∙ (ap (λ (y : ℕ). phase y t) z ∙ at)))
    unowned part side i r e

-- a group that can be reached from where a caller is, is not gone
pub not_reachable : (o : Opening) (t : Execution) → OpenedGroupsHold o t → (h f c : ℕ) →
    IsCaller o c → phase h t ≡ Opened f → AreGone o f t → IsReachable o c h t → ⊥
not_reachable o t old h f c is at all r =
    ⊎_elim
    (λ (z : (k : ℕ) × (group_of o k t ≡ h)). (all h at).unowned z.0 z.1)
    (λ (y : ((part : ℕ) × (side : ℕ) × (i : ℕ) × SeesSlot c part side i t × (slot o part side i t ≡ h))
    ⊎ (((j : ℕ) × (e : ℕ) × (stands_in c j t ≡ true) × (phase j t ≡ Opened e)
    × (phase h t ≡ Opened e))
    ⊎ (((e : ℕ) × (rebuild h t ≡ Some e) × (saw_opened c e t ≡ true))
    ⊎ ((j : ℕ) × (stands_in c j t ≡ true) × (phase j t ≡ Opened h))))).
    ⊎_elim
    (λ (z : (part : ℕ) × (side : ℕ) × (i : ℕ) × SeesSlot c part side i t × (slot o part side i t ≡ h)).
    (all h at).unnamed z.0 z.1 z.2 (inr (c, is, z.3)) z.4)
    (λ (x : ((j : ℕ) × (e : ℕ) × (stands_in c j t ≡ true) × (phase j t ≡ Opened e)
    × (phase h t ≡ Opened e))
    ⊎ (((e : ℕ) × (rebuild h t ≡ Some e) × (saw_opened c e t ≡ true))
    ⊎ ((j : ℕ) × (stands_in c j t ≡ true) × (phase j t ≡ Opened h)))).
    ⊎_elim
    (λ (z : (j : ℕ) × (e : ℕ) × (stands_in c j t ≡ true) × (phase j t ≡ Opened e)
    × (phase h t ≡ Opened e)).
    let same : z.1 ≡ f = opened_is (sym z.4 ∙ at) in
    (all z.0 (z.3 ∙ ap (λ (y : ℕ). Opened y) same)).empty c is z.2)
    (λ (w : ((e : ℕ) × (rebuild h t ≡ Some e) × (saw_opened c e t ≡ true))
    ⊎ ((j : ℕ) × (stands_in c j t ≡ true) × (phase j t ≡ Opened h))).
    ⊎_elim
    (λ (z : (e : ℕ) × (rebuild h t ≡ Some e) × (saw_opened c e t ≡ true)).
    old.closed c h is (inr z) f at)
    (λ (z : (j : ℕ) × (stands_in c j t ≡ true) × (phase j t ≡ Opened h)).
    (old.past h f z.0 h at (old.named z.0 h z.2) z.2).empty c is z.1)
    w) x) y) r

pub gone_on : (o : Opening) (t : Execution) (b : ℕ) (d : Action) → Allowed o t b d →
    OpenedGroupsHold o t → (h f : ℕ) → phase h t ≡ Opened f → AreGone o f t →
    IsGone o h (event b d ∷ t)
gone_on o t b d may old h f at all = record {
  unowned = λ k z. unowned_on o t b d may h f at (all h at) k z;
  unnamed = λ part side i r e.
      let w = named_back o t b d may h f at (all h at).unowned part side i r e in
      (all h at).unnamed part side i w.0 w.1;
  empty = λ c is s.
      ⊎_elim (λ (z : stands_in c h t ≡ true). (all h at).empty c is z)
      (λ (z : (b ≡ c) × LoadsGroup h d).
      not_reachable o t old h f c is at all
      (loads_group o c h d t is (subst (λ (y : ℕ). Allowed o t y d) z.0 may) z.1).1)
      (stands_in_gain c h b d t s).1;
}

-- ---- the rebuild before ----

past_step : (o : Opening) (t : Execution) (b : ℕ) (d : Action) → Allowed o t b d →
    OpenedGroupsHold o t → (g e h f : ℕ) → phase g (event b d ∷ t) ≡ Opened e →
    rebuild g (event b d ∷ t) ≡ Some f → phase h (event b d ∷ t) ≡ Opened f →
    IsGone o h (event b d ∷ t)
past_step o t b (Freeze i) may old g e h f at from then =
    let at' = (opened_back i g Frozen (phase g t) e frozen_not at).1 in
    let then' = (opened_back i h Frozen (phase h t) f frozen_not then).1 in
    gone_on o t b (Freeze i) may old h f then' (λ j z. old.past g e j f at' from z)
past_step o t b (Thaw i) may old g e h f at from then =
    let at' = (opened_back i g Open (phase g t) e open_not at).1 in
    let then' = (opened_back i h Open (phase h t) f open_not then).1 in
    gone_on o t b (Thaw i) may old h f then' (λ j z. old.past g e j f at' from z)
past_step o t b (NewGroup i low high j) may old g e h f at from then =
    let w = begun_back i g (phase g t) e at in let v = begun_back i h (phase h t) f then in
    let from' : rebuild g t ≡ Some f = made_back i g (Some j) (rebuild g t) f w.0 from in
    gone_on o t b (NewGroup i low high j) may old h f v.2 (λ j z. old.past g e j f w.2 from' z)
past_step o t b (StoreOpened i j) may old g e h f at from then =
    dite (ℕ_discrete i h) last first
  where
    last : i ≡ h → IsGone o h (event b (StoreOpened i j) ∷ t)
    last z =
        let same : j ≡ f = opened_is (sym (choice-same i h (Opened j) (phase h t) z) ∙ then) in
        let is_open : phase g t ≡ Open = may.fresh g (from ∙ ap Some (sym same)) in
        dite (ℕ_discrete i g)
        (λ (w : i ≡ g).
        let bad : Open ≡ Frozen =
        sym is_open ∙ (ap (λ (y : ℕ). phase y t) (sym w) ∙ may.frozen) in cc)
        (λ (n : i ≢ g).
        open_not (sym is_open ∙ (sym (choice-other i g (Opened j) (phase g t) n) ∙ at)))

    first : i ≢ h → IsGone o h (event b (StoreOpened i j) ∷ t)
    first n =
        let then' : phase h t ≡ Opened f =
        sym (choice-other i h (Opened j) (phase h t) n) ∙ then in
        gone_on o t b (StoreOpened i j) may old h f then' (dite (ℕ_discrete i g)
        (λ (w : i ≡ g) (x : ℕ) (z : phase x t ≡ Opened f).
        may.past x f z (ap (λ (y : ℕ). rebuild y t) w ∙ from))
        (λ (m : i ≢ g) (x : ℕ) (z : phase x t ≡ Opened f).
        old.past g e x f (sym (choice-other i g (Opened j) (phase g t) m) ∙ at) from z))
past_step o t b d may old g e h f at from then =
    gone_on o t b d may old h f then (λ j z. old.past g e j f at from z)

named_step : (o : Opening) (t : Execution) (b : ℕ) (d : Action) → Allowed o t b d →
    OpenedGroupsHold o t → (h f : ℕ) → phase h (event b d ∷ t) ≡ Opened f →
    rebuild f (event b d ∷ t) ≡ Some f
named_step o t b (Freeze i) may old h f e =
    old.named h f (opened_back i h Frozen (phase h t) f frozen_not e).1
named_step o t b (Thaw i) may old h f e =
    old.named h f (opened_back i h Open (phase h t) f open_not e).1
named_step o t b (NewGroup i low high j) may old h f e =
    let w = begun_back i h (phase h t) f e in
    made_still i f (Some j) (rebuild f t) f (λ z. w.1 (sym z)) w.1 (old.named h f w.2)
named_step o t b (StoreOpened i j) may old h f e =
    dite (ℕ_discrete i h)
    (λ (z : i ≡ h).
    let same : j ≡ f = opened_is (sym (choice-same i h (Opened j) (phase h t) z) ∙ e) in
    subst (λ (y : ℕ). rebuild y t ≡ Some y) same may.named)
    (λ (n : i ≢ h). old.named h f (sym (choice-other i h (Opened j) (phase h t) n) ∙ e))
named_step o t b d may old h f e = old.named h f e

pub opened_groups_hold : (o : Opening) (t : Execution) → Valid o t → OpenedGroupsHold o t
opened_groups_hold o [] valid = record {
  closed = λ c g is l f e. open_not e;
  past = λ g e h f at from then. open_not at;
  named = λ h f e. open_not e;
}
opened_groups_hold o (e ∷ t) valid =
    let old = opened_groups_hold o t valid.1 in
    record {
      closed = closed_step o t e.by e.action valid.0 old;
      past = past_step o t e.by e.action valid.0 old;
      named = named_step o t e.by e.action valid.0 old;
    }

-- ---- names that a caller saw ----

-- the group by whose number the rebuild is named is one of its new groups still
seen_named_step : (o : Opening) (t : Execution) (b : ℕ) (d : Action) → Allowed o t b d →
    (c f : ℕ) → IsCaller o c → saw_opened c f t ≡ true → rebuild f t ≡ Some f →
    rebuild f (event b d ∷ t) ≡ Some f
seen_named_step o t b (NewGroup i low high j) may c f is s named =
    made_still i f (Some j) (rebuild f t) f (λ z. other (sym z)) other named
  where
    other : f ≢ i
    other z = may.closed c is (subst (λ (y : ℕ). MayInsertInto c y t) z (inr (f, named, s)))
seen_named_step o t b d may c f is s named = named

-- a rebuild to which a caller saw a group opened is named by one of its new groups
pub seen_named : (o : Opening) (t : Execution) → Valid o t → (c f : ℕ) → IsCaller o c →
    saw_opened c f t ≡ true → rebuild f t ≡ Some f
seen_named o [] valid c f is s = let bad = s in cc
seen_named o (e ∷ t) valid c f is s =
    ⊎_elim
    (λ (z : saw_opened c f t ≡ true).
    seen_named_step o t e.by e.action valid.0 c f is z (seen_named o t valid.1 c f is z))
    (λ (z : (e.by ≡ c) × SeesOpened f e.action).
    let h : ℕ = z.1.0 in
    let load : Action = LoadPhase h (word_of_phase (Opened f)) in
    let mine : Allowed o t c load =
    may_as o t c e.action load z.1.1 (subst (λ (y : ℕ). Allowed o t y e.action) z.0 valid.0) in
    let m = loads_phase o c h (word_of_phase (Opened f)) (Opened f) t is mine refl in
    subst (λ (y : Action). rebuild f (event e.by y ∷ t) ≡ Some f) (sym z.1.1)
    ((opened_groups_hold o t valid.1).named h f m.2))
    (saw_opened_gain c f e.by e.action t s).1
