-- The slots that can be loaded lead to groups of keys at or before their pivots.
use Rattle.std.proofs.Common.{ne_eqb, ◌≢◌, ◌≡◌, ℕ, ◌+◌, ◌<◌, ◌⊎◌, inl, inr, ⊎_elim, Some}
use Rattle.std.proofs.Common.{Bool, true, false, [], ◌∷◌, refl, sym, ap, ◌∙◌, subst, cond, arith}
use Rattle.std.proofs.Common.{eq-eqb}
use Rattle.std.specs.Prelude.{◌==◌, ◌&&◌}
use mathlib.Core.Logic.{dite}
use native.Mathlib.Decide.{ℕ_discrete}
use Rattle.index_machine.specs.declared.events.Action.TheVariants.{LoadRoot}
use Rattle.index_machine.proofs.Executions.{choice-same, choice-other}
use Rattle.index_machine.proofs.Ranges.{in_range}
use Rattle.index_machine.proofs.OfParts.{outside_install}
use Rattle.index_machine.proofs.OpeningGroups.{opening_slot-group, opening_slot-least, opening_slots-rise}
use Rattle.index_machine.specs.OpeningRoots.{opening_root, opening_slots}
use Rattle.index_machine.specs.Keepers.{IsPart, IsKeyIn, first_key}
use Rattle.index_machine.specs.RebuildConditions.{MayInstall}
use Rattle.index_machine.specs.Words.{shape}
use Rattle.word_layout.specs.Shape.{first_group_of}
use Rattle.word_layout.proofs.KeySpace.{first_key-within, has_a_key}
use Rattle.machine_chain.proofs.Chained.{install_keys, install_part, left_in_part}
use Rattle.machine_chain.proofs.PartKeys.{next_key, part_of_key}
use Rattle.machine_chain.specs.Chain.{start_of}
use Rattle.machine_chain.specs.Walks.{BeginsInPart}
use Rattle.index_machine.specs.Conditions.{Allowed, Valid}
use Rattle.index_machine.specs.Execution.{Execution, event}
use Rattle.index_machine.specs.Groups.{IsInUse, root, same_slot, slot}
use Rattle.index_machine.specs.KeyRanges.{group_of}
use Rattle.index_machine.specs.Openings.{opening_group, within}
use Rattle.index_machine.specs.Permissions.{IsReadableSlot}
use Rattle.index_machine.specs.Reaching.{SeesSlot, root_seen}
use Rattle.index_machine.specs.RebuildConditions.{IsUnusedSide}
use Rattle.index_machine.specs.Sections.{IsCaller}
use Rattle.index_machine.specs.declared.events.Action.{Action}
use Rattle.index_machine.specs.declared.events.Action.TheVariants.{Install, StoreRoot, StoreSlot}
use Rattle.index_machine.specs.declared.events.Action.TheVariants.{StoreUnusedGroup}
use Rattle.index_machine.specs.declared.events.Action.TheVariants.{StoreUnusedPivot}
use Rattle.index_machine.specs.declared.events.InstallWord.TheVariants.{FirstSlot, NextOf}
use Rattle.index_machine.specs.declared.opening.Opening.{Opening}
use Rattle.machine_barriers.proofs.Gains.{both_are, root_seen_gain, test_is}
use Rattle.machine_barriers.proofs.Reaches.{loads_root, may_as}
use Rattle.machine_barriers.specs.Gains.{LoadsRoot}
use Rattle.machine_buffers.proofs.OutOfUse.{group_in, group_out}
use Rattle.machine_chain.proofs.Answers.{answers_on}
use Rattle.machine_chain.specs.Keepers.{TheChainBeginsAtTheFirstSlot}
use Rattle.machine_chain.proofs.Cases.{in_or_out}
use Rattle.machine_chain.proofs.Words.{ChangesSlotPivot, slot_pivot_kept}
use Rattle.machine_chain.specs.Walks.{IsRootWord, SlotsLead, slot_pivot}
use Rattle.index_machine.proofs.Options.{none_some}
use Rattle.word_layout.specs.Root.{word_of_root}

-- ---- which slots can be loaded ----

root_is : {p q v w : ℕ} → StoreRoot p w ≡ StoreRoot q v → (p ≡ q) × (v ≡ w)
root_is e = (cc, cc)

-- a root word that is known was so before, or is stored
word_back : (o : Opening) (t : Execution) (b : ℕ) (d : Action) (part w : ℕ) → Allowed o t b d →
    IsRootWord o part w (event b d ∷ t) → IsRootWord o part w t ⊎ (d ≡ StoreRoot part w)
word_back o t b d part w may r = ⊎_elim
    (λ (z : root o part (event b d ∷ t) ≡ w). present d z)
    (λ (z : (c : ℕ) × IsCaller o c × (root_seen c part (event b d ∷ t) ≡ Some w)). ⊎_elim
    (λ (y : root_seen z.0 part t ≡ Some w). inl (inr (z.0, z.1, y)))
    (λ (y : (b ≡ z.0) × LoadsRoot part w d).
    let m = loads_root o z.0 part w d t z.1 (subst (λ (x : ℕ). Allowed o t x d) y.0 may) y.1 in
    inl (inl m.1)) (root_seen_gain z.0 part w b d t z.2).1) r
  where
    present : (d : Action) → root o part (event b d ∷ t) ≡ w →
        IsRootWord o part w t ⊎ (d ≡ StoreRoot part w)
    present (StoreRoot q v) z = dite (ℕ_discrete q part)
        (λ (here : q ≡ part).
        inr (ap (λ (x : ℕ). StoreRoot x v) here
        ∙ ap (StoreRoot part) (sym (choice-same q part v (root o part t) here) ∙ z)))
        (λ (there : q ≢ part).
        inl (inl (sym (choice-other q part v (root o part t) there) ∙ z)))
    present d z = inl (inl z)

-- a caller loads root words of parts alone
pub seen_is_part : (o : Opening) (t : Execution) (c part w : ℕ) → Valid o t → IsCaller o c →
    root_seen c part t ≡ Some w → IsPart o part
seen_is_part o [] c part w valid is e = none_some e
seen_is_part o (x ∷ t) c part w valid is e = ⊎_elim
    (λ (z : root_seen c part t ≡ Some w). seen_is_part o t c part w valid.1 is z)
    (λ (z : (x.by ≡ c) × LoadsRoot part w x.action).
    (may_as o t x.by x.action (LoadRoot part w) z.1 valid.0).is_part)
    (root_seen_gain c part w x.by x.action t e).1

-- a slot that can be loaded is in use by such a word
word_of : (o : Opening) (t : Execution) (part side i : ℕ) → IsReadableSlot o part side i t →
    (w : ℕ) × IsRootWord o part w t × IsInUse w side i
word_of o t part side i r = ⊎_elim
    (λ (z : IsInUse (root o part t) side i). (root o part t, inl refl, z))
    (λ (z : (c : ℕ) × IsCaller o c × SeesSlot c part side i t).
    let s = z.2 in (s.0, inr (z.0, z.1, s.1), s.2)) r

word_reads : (o : Opening) (t : Execution) (part w side i : ℕ) → IsRootWord o part w t →
    IsInUse w side i → IsReadableSlot o part side i t
word_reads o t part w side i r used = ⊎_elim
    (λ (z : root o part t ≡ w). inl (subst (λ (y : ℕ). IsInUse y side i) (sym z) used))
    (λ (z : (c : ℕ) × IsCaller o c × (root_seen c part t ≡ Some w)). inr (z.0, z.1, (w, z.2, used))) r

unread : (o : Opening) (t : Execution) (part side i : ℕ) → IsUnusedSide o part side t →
    IsReadableSlot o part side i t → ⊥
unread o t part side i u r = ⊎_elim (λ (w : IsInUse (root o part t) side i). u.not_present i w)
    (λ (w : (c : ℕ) × IsCaller o c × SeesSlot c part side i t). u.empty w.0 i w.1 w.2) r

-- the slots that a stored root word names
in_use_is : (w many named side i : ℕ) → w ≡ word_of_root many named → named < 2 →
    IsInUse w side i → (side ≡ named) × (i < many)
in_use_is w many named side i e lt used =
    let word = used.1 in let below = used.2 in let less = used.3 in
    (omega (arith, e, lt, word, below), omega (arith, e, lt, word, below, less))

-- the side of another part is not this one
side_of : (o : Opening) (t : Execution) (q part s side : ℕ) → q ≡ part → s ≡ side →
    IsUnusedSide o q s t → IsUnusedSide o part side t
side_of o t q part s side here at u =
    subst (λ (x : ℕ). IsUnusedSide o x side t) here (subst (λ (y : ℕ). IsUnusedSide o q y t) at u)

-- ---- the pivots ----

pub pivot_on : (o : Opening) (t : Execution) (b : ℕ) (d : Action) (part side i : ℕ) →
    Allowed o t b d → (IsUnusedSide o part side t → ⊥) →
    slot_pivot o part side i (event b d ∷ t) ≡ slot_pivot o part side i t
pivot_on o t b d part side i may used = ⊎_elim
    (λ (z : slot_pivot o part side i (event b d ∷ t) ≡ slot_pivot o part side i t). z)
    (λ (z : ChangesSlotPivot part side i d).
    let m = may_as o t b d (StoreUnusedPivot part side i z.0) z.1 may in absurd (used m.unused))
    (slot_pivot_kept o t b d part side i)

-- ---- the groups ----

-- a slot that names what it named before
slot_on : (o : Opening) (t : Execution) (b : ℕ) (d : Action) (part side i : ℕ) → Valid o t →
    IsPart o part → Allowed o t b d → SlotsLead o t → IsReadableSlot o part side i t →
    slot o part side i (event b d ∷ t) ≡ slot o part side i t →
    BeginsInPart o part (slot_pivot o part side i (event b d ∷ t))
    (slot o part side i (event b d ∷ t)) (event b d ∷ t)
slot_on o t b d part side i valid is_part may old r same =
    let m = old.leads part side i is_part r in
    let a = answers_on o t b d m.0 (slot o part side i t) valid may
    (λ gone. gone.unnamed part side i r refl) m.2 in
    subst (λ (y : ℕ). BeginsInPart o part y (slot o part side i (event b d ∷ t)) (event b d ∷ t))
    (sym (pivot_on o t b d part side i may (λ u. unread o t part side i u r)))
    (subst (λ (y : ℕ). BeginsInPart o part (slot_pivot o part side i t) y (event b d ∷ t)) (sym same)
    (m.0, m.1, a, m.3))

slot_at : (q s j part side i : ℕ) → same_slot q s j part side i ≡ true →
    (q ≡ part) × (s ≡ side) × (j ≡ i)
slot_at q s j part side i e =
    let v = both_are (q == part) ((s == side) && (j == i)) e in
    let w = both_are (s == side) (j == i) v.1 in
    (test_is q part v.0, test_is s side w.0, test_is j i w.1)

-- the pivot of the slot that an action names
pivot_at : (o : Opening) (t : Execution) (q s j part side i : ℕ) → q ≡ part → s ≡ side → j ≡ i →
    slot_pivot o q s j t ≡ slot_pivot o part side i t
pivot_at o t q s j part side i here at is =
    ap (λ (x : ℕ). slot_pivot o x s j t) here
    ∙ (ap (λ (y : ℕ). slot_pivot o part y j t) at ∙ ap (λ (z : ℕ). slot_pivot o part side z t) is)

leads_step : (o : Opening) (t : Execution) (b : ℕ) (d : Action) (part side i : ℕ) → Valid o t →
    IsPart o part → Allowed o t b d → SlotsLead o t → (w : ℕ) → IsInUse w side i →
    IsRootWord o part w t ⊎ (d ≡ StoreRoot part w) →
    BeginsInPart o part (slot_pivot o part side i (event b d ∷ t))
    (slot o part side i (event b d ∷ t)) (event b d ∷ t)
leads_step o t b (StoreRoot q v) part side i valid is_part may old w used r = ⊎_elim
    (λ (z : IsRootWord o part w t).
    slot_on o t b (StoreRoot q v) part side i valid is_part may old
    (word_reads o t part w side i z used) refl)
    (λ (z : StoreRoot q v ≡ StoreRoot part w).
    let same = root_is z in
    let at = in_use_is w may.many may.named side i (same.1 ∙ may.stored_word) may.is_side used in
    let m = may.ready.reached_by i at.1 in
    subst (λ (x : ℕ). BeginsInPart o x (slot_pivot o x side i t) (slot o x side i t) t) same.0
    (subst (λ (y : ℕ). BeginsInPart o q (slot_pivot o q y i t) (slot o q y i t) t) (sym at.0)
    (m.0, m.3, inl m.2, m.1))) r
leads_step o t b (StoreSlot q s j g) part side i valid is_part may old w used r = ⊎_elim
    (λ (here : same_slot q s j part side i ≡ true).
    let at = slot_at q s j part side i here in let m = may.chained in
    let pivot = pivot_at o t q s j part side i at.0 at.1 at.2 in
    let below = m.3 in (
      m.0,
      omega (arith, below, pivot),
      inl (m.2 ∙ sym (ap (λ (y : Bool). cond y g (slot o part side i t)) here)),
      subst (λ (p : ℕ). IsKeyIn o p m.0) at.0 m.1,
    ))
    (λ (out : same_slot q s j part side i ≡ false).
    slot_on o t b (StoreSlot q s j g) part side i valid is_part may old (reads r)
    (ap (λ (y : Bool). cond y g (slot o part side i t)) out))
    (in_or_out (same_slot q s j part side i))
  where
    reads : IsRootWord o part w t ⊎ (StoreSlot q s j g ≡ StoreRoot part w) →
        IsReadableSlot o part side i t
    reads r = ⊎_elim (λ (z : IsRootWord o part w t). word_reads o t part w side i z used)
        (λ z. let bad = z in cc) r
leads_step o t b (StoreUnusedGroup q s j g) part side i valid is_part may old w used r = ⊎_elim
    (λ (here : same_slot q s j part side i ≡ true).
    let at = slot_at q s j part side i here in
    absurd (unread o t part side i (side_of o t q part s side at.0 at.1 may.unused) (reads r)))
    (λ (out : same_slot q s j part side i ≡ false).
    slot_on o t b (StoreUnusedGroup q s j g) part side i valid is_part may old (reads r)
    (ap (λ (y : Bool). cond y g (slot o part side i t)) out))
    (in_or_out (same_slot q s j part side i))
  where
    reads : IsRootWord o part w t ⊎ (StoreUnusedGroup q s j g ≡ StoreRoot part w) →
        IsReadableSlot o part side i t
    reads r = ⊎_elim (λ (z : IsRootWord o part w t). word_reads o t part w side i z used)
        (λ z. let bad = z in cc) r
leads_step o t b (Install (FirstSlot q s) lead low high) part side i valid is_part may old w used r =
    ⊎_elim
    (λ (here : same_slot q s 0 part side i ≡ true).
    let at = slot_at q s 0 part side i here in
    let least = old.least part w side (known r) (subst (λ (n : ℕ). IsInUse w side n) (sym at.2) used) in
    let pivot : slot_pivot o part side i t ≡ first_key o part =
    ap (λ (n : ℕ). slot_pivot o part side n t) (sym at.2) ∙ least
    in
    let low_is : low ≡ first_key o part = may.leads.0 ∙ ap (first_key o) at.0 in
    let now = group_in o t b (FirstSlot q s) lead low high low lead may.first.0 may.first.1 in (
      low,
      omega (arith, pivot, low_is),
      inl (now ∙ sym (ap (λ (y : Bool). cond y lead (slot o part side i t)) here)),
      subst (λ (p : ℕ). IsKeyIn o p low) at.0 may.in_part.0,
    ))
    (λ (out : same_slot q s 0 part side i ≡ false).
    slot_on o t b (Install (FirstSlot q s) lead low high) part side i valid is_part may old
    (word_reads o t part w side i (known r) used)
    (ap (λ (y : Bool). cond y lead (slot o part side i t)) out))
    (in_or_out (same_slot q s 0 part side i))
  where
    known : IsRootWord o part w t ⊎ (Install (FirstSlot q s) lead low high ≡ StoreRoot part w) →
        IsRootWord o part w t
    known r = ⊎_elim (λ (z : IsRootWord o part w t). z) (λ z. let bad = z in cc) r
leads_step o t b (Install (NextOf left) lead low high) part side i valid is_part may old w used r =
    ⊎_elim
    (λ (z : IsRootWord o part w t).
    slot_on o t b (Install (NextOf left) lead low high) part side i valid is_part may
    old (word_reads o t part w side i z used) refl)
    (λ z. let bad = z in cc) r
leads_step o t b d part side i valid is_part may old w used r = ⊎_elim
    (λ (z : IsRootWord o part w t). slot_on o t b d part side i valid is_part may
    old (word_reads o t part w side i z used) refl)
    (λ z. let bad = z in cc) r

slots_step : (o : Opening) (t : Execution) (b : ℕ) (d : Action) → Valid o t → Allowed o t b d →
    SlotsLead o t → SlotsLead o (event b d ∷ t)
slots_step o t b d valid may old = record {
  leads = λ part side i is_part r.
      let w = word_of o (event b d ∷ t) part side i r in
      leads_step o t b d part side i valid is_part may old w.0 w.2
      (word_back o t b d part w.0 may w.1);
  least = λ part w side r used. ⊎_elim
      (λ (z : IsRootWord o part w t).
      pivot_on o t b d part side 0 may
      (λ u. unread o t part side 0 u (word_reads o t part w side 0 z used))
      ∙ old.least part w side z used)
      (λ (z : d ≡ StoreRoot part w). stored_least part w side z used)
      (word_back o t b d part w may r);
  rising = λ part w side i r used. ⊎_elim
      (λ (z : IsRootWord o part w t).
      let quiet : IsUnusedSide o part side t → ⊥ =
      λ u. unread o t part side (i + 1) u (word_reads o t part w side (i + 1) z used) in
      subst (λ (y : ℕ). y < slot_pivot o part side (i + 1) (event b d ∷ t))
      (sym (pivot_on o t b d part side i may quiet))
      (subst (λ (y : ℕ). slot_pivot o part side i t < y)
      (sym (pivot_on o t b d part side (i + 1) may quiet)) (old.rising part w side i z used)))
      (λ (z : d ≡ StoreRoot part w). stored_rising part w side i z used)
      (word_back o t b d part w may r);
}
  where
    stored_least : (part w side : ℕ) → d ≡ StoreRoot part w → IsInUse w side 0 →
        slot_pivot o part side 0 (event b d ∷ t) ≡ first_key o part
    stored_least part w side z used =
        let m = may_as o t b d (StoreRoot part w) z may in
        let at = in_use_is w m.many m.named side 0 m.stored_word m.is_side used in
        subst (λ (y : Action). slot_pivot o part side 0 (event b y ∷ t) ≡ first_key o part) (sym z)
        (ap (λ (y : ℕ). slot_pivot o part y 0 t) at.0 ∙ m.ready.least)

    stored_rising : (part w side i : ℕ) → d ≡ StoreRoot part w → IsInUse w side (i + 1) →
        slot_pivot o part side i (event b d ∷ t) < slot_pivot o part side (i + 1) (event b d ∷ t)
    stored_rising part w side i z used =
        let m = may_as o t b d (StoreRoot part w) z may in
        let at = in_use_is w m.many m.named side (i + 1) m.stored_word m.is_side used in
        subst (λ (y : Action). slot_pivot o part side i (event b y ∷ t)
        < slot_pivot o part side (i + 1) (event b y ∷ t)) (sym z)
        (subst (λ (y : ℕ). slot_pivot o part y i t < slot_pivot o part y (i + 1) t) (sym at.0)
        (m.ready.rising i at.1))

-- ---- at the opening ----

-- the least key of a part is one of its keys
first_of_part : (o : Opening) (part : ℕ) → IsPart o part → IsKeyIn o part (first_key o part)
first_of_part o part is_part =
    record { from = omega arith; to = has_a_key (shape o).bounds part o.layout.cut is_part }

-- the slots in use are those of side 0, and no caller has loaded a root word
used_slot : (o : Opening) (part w side i : ℕ) → IsRootWord o part w [] → IsInUse w side i →
    (side ≡ 0) × (i < opening_slots o part)
used_slot o part w side i r used = ⊎_elim
    (λ (z : opening_root o part ≡ w). let word = used.1 in let below = used.2 in let less = used.3 in
    (omega (arith, z, word, below, less), omega (arith, z, word, below, less)))
    (λ (z : (c : ℕ) × IsCaller o c × (root_seen c part [] ≡ Some w)). none_some z.2) r

pub slots_lead : (o : Opening) (t : Execution) → Valid o t → SlotsLead o t
slots_lead o [] valid = record {
  leads = λ part side i is_part r.
      let w = word_of o [] part side i r in
      let used = used_slot o part w.0 side i w.1 w.2 in
      let names = opening_slot-group o part side i is_part used.0 used.1 in
      (slot_pivot o part side i [], omega arith, inl names.0, names.1);
  least = λ part w side r used.
      opening_slot-least o part side (used_slot o part w side 0 r used).0;
  rising = λ part w side i r used.
      let is = used_slot o part w side (i + 1) r used in opening_slots-rise o part side i is.0 is.1;
}
slots_lead o (e ∷ t) valid =
    slots_step o t e.by e.action valid.1 valid.0 (slots_lead o t valid.1)

-- ---- the first slot ----

-- what is kept of a part's first slot
abbrev LeadsAtFirst : Opening → ℕ → Execution → Type 0
LeadsAtFirst o part t = (side : ℕ) → IsInUse (root o part t) side 0 →
    slot o part side 0 t ≡ group_of o (first_key o part) t

-- an install by the first slot is at the side in use
first_step : (o : Opening) (t : Execution) (b : ℕ) (d : Action) (part : ℕ) →
    Valid o (event b d ∷ t) → IsPart o part → LeadsAtFirst o part t →
    LeadsAtFirst o part (event b d ∷ t)
first_step o t b (StoreRoot q v) part valid is_part old side used = dite (ℕ_discrete q part)
    (λ (here : q ≡ part).
    let may = valid.0 in
    let stored : IsInUse v side 0 =
    subst (λ (x : ℕ). IsInUse x side 0) (choice-same q part v (root o part t) here) used
    in
    let at = in_use_is v may.many may.named side 0 may.stored_word may.is_side stored in
    subst (λ (p : ℕ). slot o p side 0 t ≡ group_of o (first_key o p) t) here
    (ap (λ (y : ℕ). slot o q y 0 t) at.0 ∙ may.ready.begins))
    (λ (there : q ≢ part).
    old side (subst (λ (x : ℕ). IsInUse x side 0) (choice-other q part v (root o part t) there) used))
first_step o t b (StoreSlot q s j g) part valid is_part old side used = ⊎_elim
    (λ (here : same_slot q s j part side 0 ≡ true).
    let at = slot_at q s j part side 0 here in
    let m = valid.0.chained in
    let pivot : slot_pivot o q s j t ≡ first_key o part =
    pivot_at o t q s j part side 0 at.0 at.1 at.2
    ∙ (slots_lead o t valid.1).least part (root o part t) side (inl refl) used in
    let le = m.3 in
    let from = (subst (λ (p : ℕ). IsKeyIn o p m.0) at.0 m.1).from in
    let key : m.0 ≡ first_key o part = omega (arith, le, pivot, from) in
    ap (λ (y : Bool). cond y g (slot o part side 0 t)) here
    ∙ (sym m.2 ∙ ap (λ (y : ℕ). group_of o y t) key))
    (λ (out : same_slot q s j part side 0 ≡ false).
    ap (λ (y : Bool). cond y g (slot o part side 0 t)) out ∙ old side used)
    (in_or_out (same_slot q s j part side 0))
first_step o t b (StoreUnusedGroup q s j g) part valid is_part old side used = ⊎_elim
    (λ (here : same_slot q s j part side 0 ≡ true).
    let at = slot_at q s j part side 0 here in
    absurd ((side_of o t q part s side at.0 at.1 valid.0.unused).not_present 0 used))
    (λ (out : same_slot q s j part side 0 ≡ false).
    ap (λ (y : Bool). cond y g (slot o part side 0 t)) out ∙ old side used)
    (in_or_out (same_slot q s j part side 0))
first_step o t b (Install (NextOf left) lead low high) part valid is_part old side used =
    let may = valid.0 in
    let l = may.leads in
    let out : within low (first_key o part) high ≡ false = ⊎_elim
    (λ (here : within low (first_key o part) high ≡ true).
    let r = in_range low high (first_key o part) here in
    let starts =
    (install_part o t b (NextOf left) lead low high (first_key o part) valid.2 may r.0 r.1).0
    in
    let mine = (part_of_key o part (first_key o part) is_part (first_of_part o part is_part)).0 in
    let inner =
    left_in_part o t b (NextOf left) lead low high left l.0 valid.1 valid.2 may refl l.1 l.2
    in
    let same = (next_key o l.0 inner).0 in
    let least = (next_key o l.0 inner).2 in
    let low_starts =
    (install_part o t b (NextOf left) lead low high low valid.2 may (omega arith)
    (omega (arith, (install_keys o t b (NextOf left) lead low high may).0))).0
    in
    let low_is : low ≡ l.0 + 1 = l.1 in
    let shifted : start_of o low ≡ start_of o (l.0 + 1) = ap (start_of o) low_is in
    absurd (omega (arith, r.0, starts, mine, same, least, low_starts, low_is, shifted)))
    (λ (no : within low (first_key o part) high ≡ false). no)
    (in_or_out (within low (first_key o part) high)) in
    old side used ∙ sym (group_out o t b (NextOf left) lead low high (first_key o part) out)
first_step o t b (Install (FirstSlot q s) lead low high) part valid is_part old side used =
    dite (ℕ_discrete q part)
    (λ (same : q ≡ part).
    let here : same_slot q s 0 part side 0 ≡ true = one_slot same in
    let low_is : low ≡ first_key o part = may.leads.0 ∙ ap (first_key o) same in
    let now : group_of o (first_key o part) T ≡ lead =
    subst (λ (y : ℕ). group_of o y T ≡ lead) low_is
    (group_in o t b (FirstSlot q s) lead low high low lead may.first.0 may.first.1) in
    ap (λ (y : Bool). cond y lead (slot o part side 0 t)) here ∙ sym now)
    (λ (apart : q ≢ part).
    let out = outside_install o t b (FirstSlot q s) lead low high part (first_key o part) valid.2 may
    is_part (first_of_part o part is_part) (λ z. apart (sym z)) in
    ap (λ (y : Bool). cond y lead (slot o part side 0 t)) (other_slot apart)
    ∙ (old side used ∙ sym (group_out o t b (FirstSlot q s) lead low high (first_key o part) out)))
  where
    T : Execution
    T = event b (Install (FirstSlot q s) lead low high) ∷ t

    may : MayInstall o t b (FirstSlot q s) lead low high
    may = valid.0

    one_slot : q ≡ part → same_slot q s 0 part side 0 ≡ true
    one_slot same =
        let u : IsInUse (root o part t) s 0 =
        subst (λ (p : ℕ). IsInUse (root o p t) s 0) same may.leads.1
        in
        let aw = u.1 in let al = u.2 in let cw = used.1 in let cl = used.2 in
        let side_is : s ≡ side = omega (arith, aw, al, cw, cl) in
        rw (eq-eqb q part same, eq-eqb s side side_is) refl

    other_slot : q ≢ part → same_slot q s 0 part side 0 ≡ false
    other_slot apart = rw (ne_eqb q part apart) refl
first_step o t b d part valid is_part old side used = old side used

pub first_slot : TheChainBeginsAtTheFirstSlot
first_slot o [] valid part side is_part used =
    let is = used_slot o part (opening_root o part) side 0 (inl refl) used in
    sym (opening_slot-group o part side 0 is_part is.0 is.1).0
    ∙ ap (opening_group o) (opening_slot-least o part side is.0)
first_slot o (e ∷ t) valid part side is_part used =
    first_step o t e.by e.action part valid is_part
    (λ s u. first_slot o t valid.1 part s is_part u) side used
