-- Where a caller stands: in a group that answers for a key, or did, or in a new group to which an
-- opened phase led it.
use Rattle.std.proofs.Common.{◌≡◌, ◌≢◌, ℕ, ◌+◌, ◌<◌, ◌≤◌, ◌⊎◌, inl, inr, ⊎_elim, Some}
use Rattle.std.proofs.Common.{true, false, [], ◌∷◌, refl, sym, ap, ◌∙◌, subst, arith}
use Rattle.index_machine.proofs.OfParts.{group_in_part, key_in_part, opened_exist, opened_in_part, outside_install}
use Rattle.index_machine.proofs.OfParts.{rebuild_in_part, spot_is_part, stays_opened, stays_rebuilt, stays_successor}
use Rattle.index_machine.specs.Keepers.{IsGroupKeeper, IsKeyIn, IsPart, IsPartKeeper, part_of}
use Rattle.index_machine.specs.RebuildConditions.{part_of_spot}
use Rattle.index_machine.specs.Words.{shape}
use Rattle.word_layout.specs.Shape.{group_total}
use Rattle.word_layout.proofs.PartGroups.{group-part}
use Rattle.machine_buffers.proofs.OutOfUse.{group_out}
use Rattle.machine_chain.proofs.Slots.{seen_is_part}
use Rattle.machine_chain.specs.Chain.{end_of}
use mathlib.Core.Logic.{dite}
use native.Mathlib.Decide.{ℕ_discrete}
use Rattle.index_machine.proofs.Executions.{choice-same, own_step}
use Rattle.index_machine.specs.Conditions.{Allowed, Valid}
use Rattle.index_machine.specs.Execution.{Execution, event}
use Rattle.index_machine.specs.Groups.{phase, rebuild}
use Rattle.index_machine.specs.KeyRanges.{group_of, predecessor, successor}
use Rattle.word_layout.specs.Parts.{greatest_key}
use Rattle.index_machine.specs.Permissions.{AreGone, IsReachable}
use Rattle.index_machine.specs.Reaching.{SeesSlot, saw_opened, saw_opened_after, stands_in}
use Rattle.index_machine.specs.RecordConditions.{MayWalk}
use Rattle.index_machine.specs.Sections.{IsCaller, IsNoCrossing, IsReading}
use Rattle.index_machine.specs.declared.events.Action.{Action}
use Rattle.index_machine.specs.declared.events.Action.TheVariants.{Enter, Install, Leave, LoadNext}
use Rattle.index_machine.specs.declared.events.Action.TheVariants.{LoadPhase, LoadSlotGroup}
use Rattle.index_machine.specs.declared.events.Action.TheVariants.{NewGroup}
use Rattle.index_machine.specs.declared.events.InstallWord.{InstallWord}
use Rattle.index_machine.specs.declared.opening.Opening.{Opening}
use Rattle.machine_barriers.proofs.Gains.{stands_in_gain}
use Rattle.machine_barriers.proofs.OpenedGroups.{opened_groups_hold}
use Rattle.machine_barriers.proofs.Reaches.{caller_not_keeper, loads_phase, may_as}
use Rattle.machine_barriers.specs.Gains.{LoadsGroup}
use Rattle.machine_buffers.proofs.OutOfUse.{group_in, opened_are_not_new}
use Rattle.machine_chain.proofs.Answers.{answers_lead, answers_on, to_top}
use Rattle.machine_chain.proofs.NewGroups.{NewNext, keys_hold, new_scan}
use Rattle.machine_chain.proofs.Old.{old_chained}
use Rattle.machine_chain.proofs.Cases.{le_or_lt}
use Rattle.machine_chain.proofs.Slots.{slots_lead}
use Rattle.machine_chain.proofs.UnderWay.{under_way_holds}
use Rattle.machine_chain.specs.Chain.{IsUnderWay, KeysHaveGroups, OldAreChained, next_of, pivot_of}
use Rattle.machine_chain.specs.Walks.{AnswersFor, IsAwaitedBy, IsStandingPlace}
use Rattle.index_machine.proofs.Options.{not_so}
use Rattle.machine_readers.proofs.ReadSections.{saw_opened_on}
use Rattle.machine_readers.proofs.Redirects.{phase_stays}
use Rattle.word_layout.specs.Phase.{word_of_phase}
use Rattle.word_layout.specs.declared.phase.Phase.TheVariants.{Opened}

-- ---- what a next word leads to ----

-- from a group of a key
pub answers_next : (o : Opening) (t : Execution) (c g k n : ℕ) → Valid o t → IsCaller o c →
    stands_in c g t ≡ true → AnswersFor o k g t → next_of o g t ≡ n + 1 →
    ((i : ℕ) × AnswersFor o i n t) × IsReachable o c n t
answers_next o t c g k n valid is s a e = ⊎_elim
    (λ (le : k ≤ greatest_key).
    let l = answers_lead o t c g k valid is s le a in
    let m = l.next n e in ((m.0 + 1, m.4), l.reach n e))
    (λ (lt : greatest_key < k). absurd (⊎_elim
    (λ (z : group_of o k t ≡ g).
    let last : group_total (shape o) ≡ g = sym (keys.beyond k lt) ∙ z in
    let bad : 0 ≡ n + 1 =
    sym keys.none_behind ∙ (ap (λ (y : ℕ). next_of o y t) last ∙ e) in omega (arith, bad))
    (λ (z : predecessor o k t ≡ Some g).
    let le = keys.old k g z in omega (arith, lt, le)) a))
    (le_or_lt k greatest_key)
  where
    keys : KeysHaveGroups o t
    keys = keys_hold o t valid

-- from a new group
pub awaited_next : (o : Opening) (t : Execution) (c g n : ℕ) → Valid o t →
    IsAwaitedBy o c g t → next_of o g t ≡ n + 1 →
    IsStandingPlace o c n t × IsReachable o c n t
awaited_next o t c g n valid a e =
    let top = to_top o a.1 ((keys_hold o t valid).new a.1 g a.4).0 in
    ⊎_elim
    (λ (z : (next_of o g t ≡ 0)
    × ((m : ℕ) → a.1 ≤ m → m ≤ end_of o a.1 → successor m t ≡ Some g)).
    let bad : 0 ≡ n + 1 = sym z.0 ∙ e in absurd (omega (arith, bad)))
    (λ (z : (h : ℕ) × (i : ℕ) × (a.1 ≤ i) × (i < end_of o a.1) × (next_of o g t ≡ h + 1)
    × NewNext o a.0 h i t × ((m : ℕ) → a.1 ≤ m → m ≤ i → successor m t ≡ Some g)).
    let both : z.0 + 1 ≡ n + 1 = sym z.4 ∙ e in
    let is : z.0 ≡ n = omega (arith, both) in
    subst (λ (y : ℕ). IsStandingPlace o c y t × IsReachable o c y t) is (⊎_elim
    (λ (y : (successor (z.1 + 1) t ≡ Some z.0) × (rebuild z.0 t ≡ Some a.0)
    × (pivot_of o z.0 t ≡ z.1 + 1)).
    (inr (a.0, z.1 + 1, a.2, y.1, y.0, a.5), inr (inr (inr (inl (a.0, y.1, a.2))))))
    (λ (y : (((h : ℕ) × (successor (z.1 + 1) t ≡ Some h) × (rebuild h t ≡ Some a.0)) → ⊥)
    × (group_of o (z.1 + 1) t ≡ z.0)).
    (inl (z.1 + 1, inl y.1), inl (z.1 + 1, y.1))) z.5))
    (new_scan o t a.0 g valid a.5 a.3 top.0 a.1 top.1 a.4)

pub place_next : (o : Opening) (t : Execution) (c g n : ℕ) → Valid o t → IsCaller o c →
    stands_in c g t ≡ true → IsStandingPlace o c g t → next_of o g t ≡ n + 1 →
    IsStandingPlace o c n t × IsReachable o c n t
place_next o t c g n valid is s place e = ⊎_elim
    (λ (z : (k : ℕ) × AnswersFor o k g t).
    let m = answers_next o t c g z.0 n valid is s z.1 e in (inl m.0, m.1))
    (λ (z : IsAwaitedBy o c g t). awaited_next o t c g n valid z e) place

-- ---- what an opened phase leads to ----

-- the new group by which a rebuild is named
opened_place : (o : Opening) (t : Execution) (c old f : ℕ) → Valid o t → IsCaller o c →
    stands_in c old t ≡ true → phase old t ≡ Opened f → IsStandingPlace o c old t →
    ((k : ℕ) × (group_of o k t ≡ f))
    ⊎ ((k : ℕ) × (rebuild f t ≡ Some f) × (successor k t ≡ Some f) × IsUnderWay o f t)
opened_place o t c old f valid is s at place = ⊎_elim
    (λ (z : (k : ℕ) × AnswersFor o k old t). ⊎_elim
    (λ (y : group_of o z.0 t ≡ old).
    let here : phase (group_of o z.0 t) t ≡ Opened f = ap (λ (x : ℕ). phase x t) y ∙ at in
    let m = (under_way_holds o t valid f (z.0, here)).behind z.0 here in
    inr (pivot_of o f t, (opened_groups_hold o t valid).named old f at, m.1, (z.0, here)))
    (λ (y : predecessor o z.0 t ≡ Some old). ⊎_elim
    (λ (all : AreGone o f t). absurd ((all old at).empty c is s))
    (λ (x : OldAreChained o f t). let m = x.lead z.0 old (y, at) in inl (m.0, m.2))
    (old_chained o t valid f)) z.1)
    (λ (z : IsAwaitedBy o c old t). absurd (opened_are_not_new o t valid z.1 old f at z.4)) place

-- ---- the induction ----

no_crossing : (c g b : ℕ) (d : Action) (t : Execution) →
    stands_in c g (event b d ∷ t) ≡ true → b ≡ c → IsNoCrossing d
no_crossing c g b (Enter n) t e z =
    not_so (sym (choice-same b c false (stands_in c g t) z) ∙ e)
no_crossing c g b (Leave n) t e z =
    not_so (sym (choice-same b c false (stands_in c g t) z) ∙ e)
no_crossing c g b d t e z = tt

-- a new group that is awaited, as it is installed
awaited_install : (o : Opening) (t : Execution) (b : ℕ) (spot : InstallWord)
    (lead low high c g : ℕ) → Valid o (event b (Install spot lead low high) ∷ t) →
    (a : IsAwaitedBy o c g t) → part_of o a.0 ≡ part_of_spot o spot →
    (k : ℕ) × AnswersFor o k g (event b (Install spot lead low high) ∷ t)
awaited_install o t b spot lead low high c g now_valid a in_part =
    let valid = now_valid.1 in
    let may = now_valid.0 in
    let m = may.opened low may.first.0 in
    let of_low : part_of o (group_of o low t) ≡ part_of_spot o spot =
    group_in_part o t (part_of_spot o spot) low valid
    (spot_is_part o t b spot lead low high now_valid.2 may) may.in_part.0
    in
    let same : m.0 ≡ a.0 = ⊎_elim
    (λ (z : (m.0 ≡ a.0) × ((j : ℕ) × (group_of o j t ≡ group_of o low t))). z.0)
    (λ (z : AreGone o m.0 t). absurd ((z (group_of o low t) m.2).unowned low refl))
    ((under_way_holds o t valid a.0 a.5).alone (group_of o low t) m.0 (of_low ∙ sym in_part) m.2) in
    let here = may.all_new low a.1 a.0 m.1 g may.first.0 m.3 (m.4 ∙ ap Some same) a.4 a.3 in
    (a.1, inl (group_in o t b spot lead low high a.1 g here a.4))

-- and where what it is awaited by stays as it was
awaited_on : (o : Opening) (t : Execution) (b : ℕ) (d : Action) (c g : ℕ) →
    stands_in c g (event b d ∷ t) ≡ true → (a : IsAwaitedBy o c g t) →
    group_of o a.5.0 (event b d ∷ t) ≡ group_of o a.5.0 t →
    phase (group_of o a.5.0 t) (event b d ∷ t) ≡ Opened a.0 →
    successor a.1 (event b d ∷ t) ≡ Some g → rebuild g (event b d ∷ t) ≡ Some a.0 →
    IsAwaitedBy o c g (event b d ∷ t)
awaited_on o t b d c g stays a same opened new made = (
  a.0,
  a.1,
  saw_opened_on c a.0 (event b d ∷ []) t (no_crossing c g b d t stays, tt) a.2,
  made,
  new,
  (a.5.0, ap (λ (y : ℕ). phase y (event b d ∷ t)) same ∙ opened),
)

-- the key of a rebuild under way is of its part
under_key : (o : Opening) (t : Execution) (f : ℕ) → Valid o t → (under : IsUnderWay o f t) →
    IsPart o (part_of o f) × IsKeyIn o (part_of o f) under.0
under_key o t f valid under =
    let g : ℕ = group_of o under.0 t in
    let exists = opened_exist o t valid g f under.1 in
    let part = opened_in_part o t valid g f under.1 in (
      subst (IsPart o) (sym part) (group-part (shape o) g exists),
      subst (λ (p : ℕ). IsKeyIn o p under.0) (sym part) (key_in_part o t under.0 valid exists),
    )

awaited_step : (o : Opening) (t : Execution) (b : ℕ) (d : Action) (c g : ℕ) →
    Valid o (event b d ∷ t) → stands_in c g (event b d ∷ t) ≡ true → IsAwaitedBy o c g t →
    IsStandingPlace o c g (event b d ∷ t)
awaited_step o t b (Install spot lead low high) c g valid stays a =
    dite (ℕ_discrete (part_of o a.0) (part_of_spot o spot))
    (λ (same : part_of o a.0 ≡ part_of_spot o spot).
    inl (awaited_install o t b spot lead low high c g valid a same))
    (λ (apart : part_of o a.0 ≢ part_of_spot o spot).
    let key = under_key o t a.0 valid.1 a.5 in
    let out = outside_install o t b spot lead low high (part_of o a.0) a.5.0 valid.2 valid.0 key.0 key.1
    apart
    in
    inr (awaited_on o t b (Install spot lead low high) c g stays a
    (group_out o t b spot lead low high a.5.0 out) a.5.1 a.4 a.3))
awaited_step o t b (NewGroup n low high i) c g valid stays a =
    dite (ℕ_discrete (part_of o a.0) (part_of o n))
    (λ (same : part_of o a.0 ≡ part_of o n).
    let key = (under_key o t a.0 valid.1 a.5).1 in
    absurd (valid.0.idle a.5.0 a.0 (subst (λ (p : ℕ). IsKeyIn o p a.5.0) same key) a.5.1))
    (λ (apart : part_of o a.0 ≢ part_of o n).
    let old = opened_in_part o t valid.1 (group_of o a.5.0 t) a.0 a.5.1 in
    let new = rebuild_in_part o t valid.1 g a.0 a.3 in
    inr (awaited_on o t b (NewGroup n low high i) c g stays a refl
    (stays_opened o t b n low high i (group_of o a.5.0 t) a.0 valid.1 (λ z. apart (old ∙ z)) a.5.1)
    (stays_successor o t b n low high i a.1 g valid.1 valid.0 (λ z. apart (new ∙ z)) a.4)
    (stays_rebuilt o t b n low high i g a.0 valid.1 (λ z. apart (new ∙ z)) a.3)))
awaited_step o t b d c g valid stays a =
    inr (awaited_on o t b d c g stays a refl
    (⊎_elim (λ (z : phase (group_of o a.5.0 t) (event b d ∷ t) ≡ Opened a.0). z)
    (λ z. let bad = z.4 in cc)
    (phase_stays o t b d (group_of o a.5.0 t) a.0 valid.0 a.5.1)) a.4 a.3)

-- a group that the caller comes to
came_to : (o : Opening) (t : Execution) (c g : ℕ) (d : Action) → Valid o t → IsCaller o c →
    Allowed o t c d → LoadsGroup g d →
    ((h : ℕ) → stands_in c h t ≡ true → IsStandingPlace o c h t) →
    IsStandingPlace o c g (event c d ∷ t)
came_to o t c g d valid is may by old = ⊎_elim
    (λ (z : (part : ℕ) × (side : ℕ) × (i : ℕ) × (d ≡ LoadSlotGroup part side i g)).
    let m = may_as o t c d (LoadSlotGroup z.0 z.1 z.2 g) z.3 may in
    let sees : SeesSlot c z.0 z.1 z.2 t = ⊎_elim
    (λ (y : IsReading o c t × SeesSlot c z.0 z.1 z.2 t). y.1)
    (λ (y : IsPartKeeper o c z.0). caller_not_keeper o c is (omega arith)) m.allowed in
    let l = (slots_lead o t valid).leads z.0 z.1 z.2 (seen_is_part o t c z.0 sees.0 valid is sees.1)
    (inr (c, is, sees)) in
    subst (λ (y : Action). IsStandingPlace o c g (event c y ∷ t)) (sym z.3)
    (inl (l.0, subst (λ (y : ℕ). AnswersFor o l.0 y t) m.says l.2)))
    (λ (y : ((left : ℕ) × (d ≡ LoadNext left (g + 1)))
    ⊎ ((h : ℕ) × (d ≡ LoadPhase h (word_of_phase (Opened g))))). ⊎_elim
    (λ (z : (left : ℕ) × (d ≡ LoadNext left (g + 1))).
    let m = may_as o t c d (LoadNext z.0 (g + 1)) z.1 may in
    let s = walker z.0 m.allowed in
    let p = (place_next o t c z.0 g valid is s (old z.0 s) m.found_word).0 in
    subst (λ (y : Action). IsStandingPlace o c g (event c y ∷ t)) (sym z.1) (⊎_elim
    (λ (x : (k : ℕ) × AnswersFor o k g t). inl x)
    (λ (x : IsAwaitedBy o c g t). inr x) p))
    (λ (z : (h : ℕ) × (d ≡ LoadPhase h (word_of_phase (Opened g)))).
    let m = may_as o t c d (LoadPhase z.0 (word_of_phase (Opened g))) z.1 may in
    let w = loads_phase o c z.0 (word_of_phase (Opened g)) (Opened g) t is m refl in
    let p = opened_place o t c z.0 g valid is w.1 w.2 (old z.0 w.1) in
    subst (λ (y : Action). IsStandingPlace o c g (event c y ∷ t)) (sym z.1) (⊎_elim
    (λ (x : (k : ℕ) × (group_of o k t ≡ g)). inl (x.0, inl x.1))
    (λ (x : (k : ℕ) × (rebuild g t ≡ Some g) × (successor k t ≡ Some g) × IsUnderWay o g t).
    inr (g, x.0, seen z.0, x.1, x.2, x.3)) p)) y) by
  where
    walker : (h : ℕ) → MayWalk o c h t → stands_in c h t ≡ true
    walker h m = ⊎_elim (λ (z : IsReading o c t × (stands_in c h t ≡ true)). z.1)
        (λ (z : IsGroupKeeper o c h). caller_not_keeper o c is (omega arith)) m

    seen : (h : ℕ) → saw_opened c g (event c (LoadPhase h (word_of_phase (Opened g))) ∷ t) ≡ true
    seen h = own_step (saw_opened_after g) false c (LoadPhase h (word_of_phase (Opened g))) t
        ∙ choice-same (word_of_phase (Opened g)) (word_of_phase (Opened g)) true
        (saw_opened c g t) refl

pub standing : (o : Opening) (t : Execution) → Valid o t → (c g : ℕ) → IsCaller o c →
    stands_in c g t ≡ true → IsStandingPlace o c g t
standing o [] valid c g is s = not_so s
standing o (e ∷ t) valid c g is s = ⊎_elim
    (λ (z : stands_in c g t ≡ true). ⊎_elim
    (λ (y : (k : ℕ) × AnswersFor o k g t).
    inl (y.0, answers_on o t e.by e.action y.0 g valid.1 valid.0 (λ gone. gone.empty c is z) y.1))
    (λ (y : IsAwaitedBy o c g t). awaited_step o t e.by e.action c g valid s y)
    (standing o t valid.1 c g is z))
    (λ (z : (e.by ≡ c) × LoadsGroup g e.action).
    subst (λ (y : ℕ). IsStandingPlace o c g (event y e.action ∷ t)) (sym z.0)
    (came_to o t c g e.action valid.1 is
    (subst (λ (y : ℕ). Allowed o t y e.action) z.0 valid.0) z.1
    (λ h there. standing o t valid.1 c h is there)))
    (stands_in_gain c g e.by e.action t s).1
