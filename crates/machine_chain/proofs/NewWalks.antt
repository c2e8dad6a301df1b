-- A walk of a caller of an old group along the new groups ends in the new group of its key.
use Rattle.std.proofs.Common.{◌≡◌, ◌≢◌, ℕ, ◌+◌, ◌<◌, ◌≤◌, inl, inr, ⊎_elim, Some}
use Rattle.std.proofs.Common.{true, false, [], ◌∷◌, ◌++◌, refl, sym, ap, ◌∙◌, subst, arith}
use Rattle.index_machine.proofs.OfParts.{before_in_part, group_in_part, key_in_part, opened_elsewhere, opened_exist}
use Rattle.index_machine.proofs.OfParts.{opened_in_part, outside_install, rebuild_in_part, spot_is_part}
use Rattle.index_machine.proofs.OfParts.{stays_rebuilt, stays_successor, successor_exists, successor_in_part}
use Rattle.index_machine.proofs.OfParts.{successor_of_part}
use Rattle.index_machine.proofs.Ranges.{in_range}
use Rattle.index_machine.specs.Keepers.{IsKeyIn, IsPart, last_key, part_of}
use Rattle.index_machine.specs.RebuildConditions.{part_of_spot}
use Rattle.index_machine.specs.Sections.{IsHand}
use Rattle.index_machine.specs.Words.{shape}
use Rattle.word_layout.specs.Shape.{group_total}
use Rattle.word_layout.proofs.PartGroups.{group-part, part_with-has}
use Rattle.machine_buffers.proofs.OutOfUse.{group_out}
use Rattle.machine_chain.proofs.Chained.{install_part, install_pivot}
use Rattle.machine_chain.proofs.Keys.{before_out}
use Rattle.machine_chain.proofs.PartKeys.{end_is_key, key_lies, part_of_key, same_end}
use Rattle.machine_chain.specs.Chain.{end_of, start_of}
use mathlib.Core.Logic.{dite}
use native.Mathlib.Decide.{ℕ_discrete}
use Rattle.index_machine.proofs.Executions.{choice-same, own_step, valid_before}
use Rattle.index_machine.specs.Conditions.{Allowed, Valid}
use Rattle.index_machine.specs.Execution.{Execution, event}
use Rattle.index_machine.specs.Groups.{phase, rebuild}
use Rattle.index_machine.specs.KeyRanges.{group_of, predecessor, successor}
use Rattle.index_machine.specs.Openings.{within}
use Rattle.word_layout.specs.Parts.{greatest_key}
use Rattle.index_machine.specs.Permissions.{AreGone}
use Rattle.index_machine.specs.Reaching.{stands_in, stands_in_after}
use Rattle.index_machine.specs.RebuildConditions.{HasNewGroup, MayInstall}
use Rattle.index_machine.specs.Sections.{IsCaller, StaysInside}
use Rattle.index_machine.specs.declared.events.Action.{Action}
use Rattle.index_machine.specs.declared.events.Action.TheVariants.{Install, LoadNext, NewGroup}
use Rattle.index_machine.specs.declared.events.InstallWord.{InstallWord}
use Rattle.index_machine.specs.declared.opening.Opening.{Opening}
use Rattle.machine_barriers.proofs.OpenedGroups.{opened_is}
use Rattle.machine_buffers.proofs.OutOfUse.{group_in}
use Rattle.machine_chain.proofs.Answers.{answers_on, chain_scan, to_top}
use Rattle.machine_chain.proofs.Keys.{before_in, old_unchained}
use Rattle.machine_chain.proofs.NewGroups.{NewNext, keys_hold, new_scan}
use Rattle.machine_chain.proofs.Old.{old_chained}
use Rattle.machine_chain.proofs.Pivots.{chain_back}
use Rattle.machine_chain.proofs.Cases.{le_or_lt}
use Rattle.machine_chain.proofs.UnderWay.{under_way_holds}
use Rattle.machine_chain.proofs.Walking.{pivots_while}
use Rattle.machine_chain.proofs.Words.{pivot_same}
use Rattle.machine_chain.specs.Chain.{OldAreChained, UnderWayHolds, next_of, pivot_of}
use Rattle.machine_chain.specs.Laws.{NewAnswersAreBehind, NewWalksBegin, NewWalksEnd, NewWalksGoOn}
use Rattle.machine_chain.specs.Laws.{NewWalksStay}
use Rattle.machine_chain.specs.Walks.{AnswersForNew, BeginsBeforeNew}
use Rattle.index_machine.proofs.Options.{some_is}
use Rattle.machine_readers.proofs.InstalledRedirects.{arrives_late}
use Rattle.machine_readers.proofs.ReadSections.{opened_step, stands_in_on}
use Rattle.machine_readers.proofs.StandingCallers.{groups_before_are_opened}
use Rattle.word_layout.specs.declared.phase.Phase.TheVariants.{Opened}

-- ---- where the walk begins ----

pub new_begins : NewWalksBegin
new_begins o t valid c old f k is s at a = ⊎_elim
    (λ (z : group_of o k t ≡ old).
    let here : phase (group_of o k t) t ≡ Opened f = ap (λ (y : ℕ). phase y t) z ∙ at in
    let u = under_way_holds o t valid f (k, here) in
    let m = u.behind k here in
    let h = m.2 (pivot_of o f t) (omega arith) m.0 in
    let same : h.0 ≡ f = some_is (sym h.1 ∙ m.1) in
    inl (pivot_of o f t, z, omega arith, m.0, m.1, ap (λ (y : ℕ). rebuild y t) (sym same) ∙ h.2))
    (λ (z : predecessor o k t ≡ Some old). ⊎_elim
    (λ (all : AreGone o f t). absurd ((all old at).empty c is s))
    (λ (chained : OldAreChained o f t). let m = chained.lead k old (z, at) in
    inr (m.0, z, m.1, m.2, m.3))
    (old_chained o t valid f)) a

-- ---- one step of the walk ----

-- before the install
step_before : (o : Opening) (t : Execution) (old f k h n j : ℕ) → Valid o t →
    phase old t ≡ Opened f → group_of o k t ≡ old → pivot_of o f t ≤ j → j ≤ k →
    successor j t ≡ Some h → rebuild h t ≡ Some f → next_of o h t ≡ n + 1 →
    (pivot_of o n t ≤ k → BeginsBeforeNew o old f k n t)
    × (k < pivot_of o n t → AnswersForNew o old k h t)
step_before o t old f k h n j valid at own low le s made e = ⊎_elim
    (λ (z : (next_of o h t ≡ 0) × ((m : ℕ) → j ≤ m → m ≤ end_of o j → successor m t ≡ Some h)).
    let bad : 0 ≡ n + 1 = sym z.0 ∙ e in absurd (omega (arith, bad)))
    (λ (z : (x : ℕ) × (i : ℕ) × (j ≤ i) × (i < end_of o j) × (next_of o h t ≡ x + 1)
    × NewNext o f x i t × ((m : ℕ) → j ≤ m → m ≤ i → successor m t ≡ Some h)).
    let both : z.0 + 1 ≡ n + 1 = sym z.4 ∙ e in
    let is : z.0 ≡ n = omega (arith, both) in
    subst (λ (y : ℕ). (pivot_of o y t ≤ k → BeginsBeforeNew o old f k y t)
    × (k < pivot_of o y t → AnswersForNew o old k h t)) is
    (go z.0 z.1 z.2 z.3 z.5 z.6))
    (new_scan o t f h valid (k, here) made top.0 j top.1 s)
  where
    here : phase (group_of o k t) t ≡ Opened f
    here = ap (λ (y : ℕ). phase y t) own ∙ at

    holds : UnderWayHolds o f t
    holds = under_way_holds o t valid f (k, here)

    key : k ≤ greatest_key
    key = let m = holds.planned k here in ((keys_hold o t valid).new k m.0 m.1).0

    top : (d : ℕ) × (j + d ≡ end_of o j)
    top = to_top o j (omega (arith, le, key))

    go : (x i : ℕ) → j ≤ i → i < end_of o j → NewNext o f x i t →
        ((m : ℕ) → j ≤ m → m ≤ i → successor m t ≡ Some h) →
        (pivot_of o x t ≤ k → BeginsBeforeNew o old f k x t)
        × (k < pivot_of o x t → AnswersForNew o old k h t)
    go x i ji lt way all = ⊎_elim
        (λ (y : (successor (i + 1) t ≡ Some x) × (rebuild x t ≡ Some f)
        × (pivot_of o x t ≡ i + 1)).
        let p = y.2 in (
          (λ l. inl (i + 1, own, omega (arith, low, ji), omega (arith, l, p), y.0, y.1)),
          (λ l. inl (own, all k le (omega (arith, l, p)))),
        ))
        (λ (y : (HasNewGroup f (i + 1) t → ⊥) × (group_of o (i + 1) t ≡ x)). ⊎_elim
        (λ (l : i + 1 ≤ k).
        absurd (y.0 ((holds.behind k here).2 (i + 1) (omega (arith, low, ji)) l)))
        (λ (l : k < i + 1). (
          (λ p. absurd (y.0 (holds.planned (i + 1) (beyond x i lt y.1 l p)))),
          (λ p. inl (own, all k le (omega (arith, l)))),
        ))
        (le_or_lt (i + 1) k)) way
      where
        -- a group behind the new ones does not begin at or before the key
        beyond : (x i : ℕ) → i < end_of o j → group_of o (i + 1) t ≡ x → k < i + 1 →
            pivot_of o x t ≤ k → phase (group_of o (i + 1) t) t ≡ Opened f
        beyond x i lt e l p =
            let w = chain_back o t x (i + 1) valid (omega (arith, lt, end_is_key o j)) e in
            let same : group_of o k t ≡ x = w.1 k p (omega (arith, l)) in
            ap (λ (v : ℕ). phase v t) (e ∙ (sym same ∙ own)) ∙ at

-- after it
step_after : (o : Opening) (t : Execution) (old f k h n j : ℕ) → Valid o t → k ≤ greatest_key →
    predecessor o k t ≡ Some old → j ≤ k → group_of o j t ≡ h → start_of o k ≤ j →
    next_of o h t ≡ n + 1 →
    (pivot_of o n t ≤ k → BeginsBeforeNew o old f k n t)
    × (k < pivot_of o n t → AnswersForNew o old k h t)
step_after o t old f k h n j valid key was le at starts e = ⊎_elim
    (λ (z : (next_of o h t ≡ 0) × ((m : ℕ) → j ≤ m → m ≤ end_of o j → group_of o m t ≡ h)).
    let bad : 0 ≡ n + 1 = sym z.0 ∙ e in absurd (omega (arith, bad)))
    (λ (z : (i : ℕ) × (j ≤ i) × (i < end_of o j) × (next_of o h t ≡ group_of o (i + 1) t + 1)
    × (pivot_of o (group_of o (i + 1) t) t ≡ i + 1)
    × ((m : ℕ) → j ≤ m → m ≤ i → group_of o m t ≡ h)).
    let both : group_of o (z.0 + 1) t + 1 ≡ n + 1 = sym z.3 ∙ e in
    let is : group_of o (z.0 + 1) t ≡ n = omega (arith, both) in
    let p : pivot_of o n t ≡ z.0 + 1 = ap (λ (y : ℕ). pivot_of o y t) (sym is) ∙ z.4 in (
      (λ l. let from = z.1 in
          inr (z.0 + 1, was, omega (arith, l, p), is, omega (arith, starts, from))),
      (λ l. inr (was, z.5 k le (omega (arith, l, p)))),
    ))
    (chain_scan o t h j valid (omega (arith, le, key)) at)

-- ---- what stays ----

-- at an install
module _ (o : Opening) (t : Execution) (b : ℕ) (spot : InstallWord) (lead low high : ℕ)
    (c old f k : ℕ) (valid : Valid o t) (is_hand : IsHand o b)
    (may : MayInstall o t b spot lead low high) (in_part : part_of o f ≡ part_of_spot o spot)
    (is : IsCaller o c) (s : stands_in c old t ≡ true) (at : phase old t ≡ Opened f) where
  -- the old group is of the part where the rebuild is
  of_one : part_of o old ≡ part_of o (may.opened low may.first.0).0
  of_one =
      let m = may.opened low may.first.0 in
      let low_part =
      group_in_part o t (part_of_spot o spot) low valid
      (spot_is_part o t b spot lead low high is_hand may) may.in_part.0
      in
      sym (opened_in_part o t valid old f at) ∙ (in_part ∙ (sym low_part
      ∙ sym (opened_in_part o t valid (group_of o low t) m.0 m.2)))

  -- the rebuild that is installed is this one
  named : (may.opened low may.first.0).0 ≡ f
  named = let m = may.opened low may.first.0 in ⊎_elim
      (λ (z : (f ≡ m.0) × ((j : ℕ) × (group_of o j t ≡ old))). sym z.0)
      (λ (z : AreGone o f t). absurd ((z old at).empty c is s))
      ((under_way_holds o t valid m.0 (low, m.2)).alone old f of_one at)

  key_in : group_of o k t ≡ old → within low k high ≡ true
  key_in own = let m = may.opened low may.first.0 in
      may.all_old low k f may.first.0 (m.2 ∙ ap (λ (y : ℕ). Opened y) named)
      (ap (λ (y : ℕ). phase y t) own ∙ at)

  new_in : (j h : ℕ) → successor j t ≡ Some h → rebuild h t ≡ Some f → within low j high ≡ true
  new_in j h e made = let m = may.opened low may.first.0 in
      may.all_new low j f m.1 h may.first.0 m.3 (m.4 ∙ ap Some named) e made

  not_after : {X : Type 0} → predecessor o k t ≡ Some old → X
  not_after was = let m = may.opened low may.first.0 in absurd (⊎_elim
      (λ (z : (f ≡ m.0) × ((j : ℕ) × (group_of o j t ≡ old))).
      old_unchained o t valid k old z.1.0 was z.1.1)
      (λ (z : AreGone o f t). (z old at).empty c is s)
      ((under_way_holds o t valid m.0 (low, m.2)).alone old f of_one at))

  from_start : (j : ℕ) → within low k high ≡ true → within low j high ≡ true → start_of o k ≤ j
  from_start j here there =
      let r = in_range low high k here in
      let w = in_range low high j there in
      let starts = (install_part o t b spot lead low high k is_hand may r.0 r.1).0 in
      let from = may.in_part.0.from in
      omega (arith, starts, from, w.0)

  pub begins_install : (h : ℕ) → BeginsBeforeNew o old f k h t →
      BeginsBeforeNew o old f k h (event b (Install spot lead low high) ∷ t)
  begins_install h a = ⊎_elim
      (λ (z : (j : ℕ) × (group_of o k t ≡ old) × (pivot_of o f t ≤ j) × (j ≤ k)
      × (successor j t ≡ Some h) × (rebuild h t ≡ Some f)).
      inr (
        z.0,
        before_in o t b spot lead low high k (key_in z.1) ∙ ap Some z.1,
        z.3,
        group_in o t b spot lead low high z.0 h (new_in z.0 h z.4 z.5) z.4,
        from_start z.0 (key_in z.1) (new_in z.0 h z.4 z.5),
      ))
      (λ (z : (j : ℕ) × (predecessor o k t ≡ Some old) × (j ≤ k) × (group_of o j t ≡ h)
      × (start_of o k ≤ j)).
      not_after z.1) a

  pub answers_install : (h : ℕ) → AnswersForNew o old k h t →
      AnswersForNew o old k h (event b (Install spot lead low high) ∷ t)
  answers_install h a = ⊎_elim
      (λ (z : (group_of o k t ≡ old) × (successor k t ≡ Some h)).
      inr (
        before_in o t b spot lead low high k (key_in z.0) ∙ ap Some z.0,
        group_in o t b spot lead low high k h (key_in z.0) z.1,
      ))
      (λ (z : (predecessor o k t ≡ Some old) × (group_of o k t ≡ h)). not_after z.0) a

-- the group before is remembered while a caller stands there
still_before : (o : Opening) (t : Execution) (b n low high i c old k : ℕ) → Valid o t →
    Allowed o t b (NewGroup n low high i) → IsCaller o c → stands_in c old t ≡ true →
    predecessor o k t ≡ Some old → predecessor o k (event b (NewGroup n low high i) ∷ t) ≡ Some old
still_before o t b n low high i c old k valid may is s was = ⊎_elim
    (λ (z : group_of o k t ≡ old). absurd (old_unchained o t valid k old k was z))
    (λ (z : predecessor o k (event b (NewGroup n low high i) ∷ t) ≡ Some old). z)
    (answers_on o t b (NewGroup n low high i) k old valid may (λ gone. gone.empty c is s) (inr was))

-- the pivot of a rebuild's first group, while it is under way
first_pivot : (o : Opening) (t : Execution) (b : ℕ) (d : Action) (f k : ℕ) → Valid o t →
    Allowed o t b d → phase (group_of o k t) t ≡ Opened f →
    ((low high i : ℕ) → d ≢ NewGroup f low high i) →
    pivot_of o f (event b d ∷ t) ≡ pivot_of o f t
first_pivot o t b d f k valid may at no_new =
    let m = (under_way_holds o t valid f (k, at)).behind k at in
    pivot_same o t b d f may (λ gone y u. u (pivot_of o f t) m.1)
    (λ low high i x z. no_new low high i z)

new_group_is : {h g a c e x y z : ℕ} → NewGroup h a c e ≡ NewGroup g x y z → h ≡ g
new_group_is e = cc

-- a key of an old group of a rebuild is of the rebuild's part, before the install and after it
own_part : (o : Opening) (t : Execution) (old f k : ℕ) → Valid o t → phase old t ≡ Opened f →
    group_of o k t ≡ old → IsKeyIn o (part_of o f) k
own_part o t old f k valid at own =
    let exists : group_of o k t < group_total (shape o) =
    subst (λ (n : ℕ). n < group_total (shape o)) (sym own) (opened_exist o t valid old f at)
    in
    subst (λ (p : ℕ). IsKeyIn o p k) (ap (part_of o) own ∙ sym (opened_in_part o t valid old f at))
    (key_in_part o t k valid exists)

was_part : (o : Opening) (t : Execution) (old f k : ℕ) → Valid o t → phase old t ≡ Opened f →
    predecessor o k t ≡ Some old → IsKeyIn o (part_of o f) k × (k ≤ greatest_key)
was_part o t old f k valid at was =
    let m = before_in_part o t valid k old was in (
      subst (λ (p : ℕ). IsKeyIn o p k) (sym m.1 ∙ sym (opened_in_part o t valid old f at))
          (part_with-has (shape o).bounds k o.layout.cut m.0),
      m.0,
    )

-- the part of an opened rebuild
f_part : (o : Opening) (t : Execution) (old f : ℕ) → Valid o t → phase old t ≡ Opened f →
    IsPart o (part_of o f)
f_part o t old f valid at =
    subst (IsPart o) (sym (opened_in_part o t valid old f at))
    (group-part (shape o) old (opened_exist o t valid old f at))

-- an install in another part
module _ (o : Opening) (t : Execution) (b : ℕ) (spot : InstallWord) (lead low high : ℕ)
    (old f k : ℕ) (valid : Valid o t) (is_hand : IsHand o b)
    (may : MayInstall o t b spot lead low high) (apart : part_of o f ≢ part_of_spot o spot)
    (at : phase old t ≡ Opened f) where
  out : (j : ℕ) → IsKeyIn o (part_of o f) j → within low j high ≡ false
  out j key =
      outside_install o t b spot lead low high (part_of o f) j is_hand may
      (f_part o t old f valid at) key apart

  pub begins_elsewhere : (h : ℕ) → BeginsBeforeNew o old f k h t →
      BeginsBeforeNew o old f k h (event b (Install spot lead low high) ∷ t)
  begins_elsewhere h a = ⊎_elim
      (λ (z : (j : ℕ) × (group_of o k t ≡ old) × (pivot_of o f t ≤ j) × (j ≤ k)
      × (successor j t ≡ Some h) × (rebuild h t ≡ Some f)).
      let key = own_part o t old f k valid at z.1 in
      let same = install_pivot o t b spot lead low high f in
      let from = z.2 in
      inl (
        z.0,
        group_out o t b spot lead low high k (out k key) ∙ z.1,
        omega (arith, from, same),
        z.3,
        z.4,
        z.5,
      ))
      (λ (z : (j : ℕ) × (predecessor o k t ≡ Some old) × (j ≤ k) × (group_of o j t ≡ h)
      × (start_of o k ≤ j)).
      let key = was_part o t old f k valid at z.1 in
      let ends = (part_of_key o (part_of o f) k (f_part o t old f valid at) key.0).0 in
      let to = key.0.to in
      let le = z.2 in
      let starts = z.4 in
      let there : IsKeyIn o (part_of o f) z.0 =
      record { from = omega (arith, starts, ends); to = omega (arith, le, to) }
      in
      inr (
        z.0,
        before_out o t b spot lead low high k (out k key.0) ∙ z.1,
        z.2,
        group_out o t b spot lead low high z.0 (out z.0 there) ∙ z.3,
        z.4,
      )) a

  pub answers_elsewhere : (h : ℕ) → AnswersForNew o old k h t →
      AnswersForNew o old k h (event b (Install spot lead low high) ∷ t)
  answers_elsewhere h a = ⊎_elim
      (λ (z : (group_of o k t ≡ old) × (successor k t ≡ Some h)).
      let key = own_part o t old f k valid at z.0 in
      inl (group_out o t b spot lead low high k (out k key) ∙ z.0, z.1))
      (λ (z : (predecessor o k t ≡ Some old) × (group_of o k t ≡ h)).
      let key = (was_part o t old f k valid at z.0).0 in
      inr (
        before_out o t b spot lead low high k (out k key) ∙ z.0,
        group_out o t b spot lead low high k (out k key) ∙ z.1,
      )) a

begins_step : (o : Opening) (t : Execution) (b : ℕ) (d : Action) (c old f k h : ℕ) →
    Valid o (event b d ∷ t) → IsCaller o c → stands_in c old t ≡ true → phase old t ≡ Opened f →
    BeginsBeforeNew o old f k h t → BeginsBeforeNew o old f k h (event b d ∷ t)
begins_step o t b (Install spot lead low high) c old f k h valid is s at a =
    dite (ℕ_discrete (part_of o f) (part_of_spot o spot))
    (λ (same : part_of o f ≡ part_of_spot o spot).
    begins_install o t b spot lead low high c old f k valid.1 valid.2 valid.0 same is s at h a)
    (λ (apart : part_of o f ≢ part_of_spot o spot).
    begins_elsewhere o t b spot lead low high old f k valid.1 valid.2 valid.0 apart at h a)
begins_step o t b (NewGroup n low high i) c old f k h valid is s at a = ⊎_elim
    (λ (z : (j : ℕ) × (group_of o k t ≡ old) × (pivot_of o f t ≤ j) × (j ≤ k)
    × (successor j t ≡ Some h) × (rebuild h t ≡ Some f)).
    let here : phase (group_of o k t) t ≡ Opened f = ap (λ (y : ℕ). phase y t) z.1 ∙ at in
    let elsewhere = opened_elsewhere o t b n low high i valid.1 valid.0 k f here in
    let part = opened_in_part o t valid.1 (group_of o k t) f here in
    let apart : part_of o f ≢ part_of o n = λ w. elsewhere (sym part ∙ w) in
    let new = rebuild_in_part o t valid.1 h f z.5 in
    let same = first_pivot o t b (NewGroup n low high i) f k valid.1 valid.0 here
    (λ l r x w. apart (sym (ap (part_of o) (new_group_is w)))) in
    let from = z.2 in
    inl (
      z.0,
      z.1,
      omega (arith, from, same),
      z.3,
      stays_successor o t b n low high i z.0 h valid.1 valid.0 (λ w. apart (new ∙ w)) z.4,
      stays_rebuilt o t b n low high i h f valid.1 (λ w. apart (new ∙ w)) z.5,
    ))
    (λ (z : (j : ℕ) × (predecessor o k t ≡ Some old) × (j ≤ k) × (group_of o j t ≡ h)
    × (start_of o k ≤ j)).
    inr (z.0, still_before o t b n low high i c old k valid.1 valid.0 is s z.1, z.2, z.3, z.4)) a
begins_step o t b d c old f k h valid is s at a = ⊎_elim
    (λ (z : (j : ℕ) × (group_of o k t ≡ old) × (pivot_of o f t ≤ j) × (j ≤ k)
    × (successor j t ≡ Some h) × (rebuild h t ≡ Some f)).
    let e = first_pivot o t b d f k valid.1 valid.0 (ap (λ (y : ℕ). phase y t) z.1 ∙ at)
    (λ low high i y. let bad = y in cc) in
    let low = z.2 in
    inl (z.0, z.1, omega (arith, e, low), z.3, z.4, z.5))
    (λ (z : (j : ℕ) × (predecessor o k t ≡ Some old) × (j ≤ k) × (group_of o j t ≡ h)
    × (start_of o k ≤ j)).
    inr z) a

answers_step : (o : Opening) (t : Execution) (b : ℕ) (d : Action) (c old f k h : ℕ) →
    Valid o (event b d ∷ t) → IsCaller o c → stands_in c old t ≡ true → phase old t ≡ Opened f →
    AnswersForNew o old k h t → AnswersForNew o old k h (event b d ∷ t)
answers_step o t b (Install spot lead low high) c old f k h valid is s at a =
    dite (ℕ_discrete (part_of o f) (part_of_spot o spot))
    (λ (same : part_of o f ≡ part_of_spot o spot).
    answers_install o t b spot lead low high c old f k valid.1 valid.2 valid.0 same is s at h a)
    (λ (apart : part_of o f ≢ part_of_spot o spot).
    answers_elsewhere o t b spot lead low high old f k valid.1 valid.2 valid.0 apart at h a)
answers_step o t b (NewGroup n low high i) c old f k h valid is s at a = ⊎_elim
    (λ (z : (group_of o k t ≡ old) × (successor k t ≡ Some h)).
    let here : phase (group_of o k t) t ≡ Opened f = ap (λ (y : ℕ). phase y t) z.0 ∙ at in
    let elsewhere = opened_elsewhere o t b n low high i valid.1 valid.0 k f here in
    let same = successor_of_part o t k h valid.1 z.1 in
    inl (
      z.0,
      stays_successor o t b n low high i k h valid.1 valid.0
          (λ w. elsewhere (sym same ∙ w)) z.1,
    ))
    (λ (z : (predecessor o k t ≡ Some old) × (group_of o k t ≡ h)).
    inr (still_before o t b n low high i c old k valid.1 valid.0 is s z.0, z.1)) a
answers_step o t b d c old f k h valid is s at a = a

-- all of it, over the steps of a read section
stays : (o : Opening) (c old f k : ℕ) → IsCaller o c → (n t : Execution) → Valid o (n ++ t) →
    StaysInside c n → stands_in c old t ≡ true → phase old t ≡ Opened f →
    (phase old (n ++ t) ≡ Opened f)
    × ((h : ℕ) → BeginsBeforeNew o old f k h t → BeginsBeforeNew o old f k h (n ++ t))
    × ((h : ℕ) → AnswersForNew o old k h t → AnswersForNew o old k h (n ++ t))
stays o c old f k is [] t valid stay s at = (at, (λ h a. a), (λ h a. a))
stays o c old f k is (e ∷ n) t valid stay s at =
    let m = stays o c old f k is n t valid.1 stay.1 s at in
    let there = stands_in_on c old n t stay.1 s in (
      opened_step o (n ++ t) e.by e.action c old f valid.0 is there m.0,
      (λ h a.
          begins_step o (n ++ t) e.by e.action c old f k h valid is there m.0 (m.1 h a)),
      (λ h a.
          answers_step o (n ++ t) e.by e.action c old f k h valid is there m.0 (m.2 h a)),
    )

-- ---- the walk ----

pub new_goes_on : NewWalksGoOn
new_goes_on o c old f h n k is key newer t valid stay s at from =
    let T : Execution = event c (LoadNext h (n + 1)) ∷ t in
    let valid_T : Valid o T = valid_before o newer T valid in
    let m = valid_T.0 in
    let step = ⊎_elim
    (λ (z : (j : ℕ) × (group_of o k t ≡ old) × (pivot_of o f t ≤ j) × (j ≤ k)
    × (successor j t ≡ Some h) × (rebuild h t ≡ Some f)).
    step_before o t old f k h n z.0 valid_T.1 at z.1 z.2 z.3 z.4 z.5 m.found_word)
    (λ (z : (j : ℕ) × (predecessor o k t ≡ Some old) × (j ≤ k) × (group_of o j t ≡ h)
    × (start_of o k ≤ j)).
    step_after o t old f k h n z.0 valid_T.1 key z.1 z.2 z.3 z.4 m.found_word) from in
    let stands : stands_in c n T ≡ true =
    own_step (stands_in_after n) false c (LoadNext h (n + 1)) t
    ∙ choice-same (n + 1) (n + 1) true (stands_in c n t) refl in
    let here : stands_in c old T ≡ true = stands_in_on c old (event c (LoadNext h (n + 1)) ∷ []) t
    ((λ z. tt), tt) s in
    let pivot : pivot_of o n (newer ++ T) ≡ pivot_of o n t =
    pivots_while o c n is newer T valid stay stands in
    let on = stays o c old f k is newer T valid stay here at in (
      (λ le. (on.1 n (step.0 (omega (arith, le, pivot))), stands_in_on c n newer T stay stands)),
      (λ lt. on.2 h (step.1 (omega (arith, lt, pivot)))),
    )

-- the end of the new groups' walk, before the install and after it
end_before : (o : Opening) (t : Execution) (old f k h j : ℕ) → Valid o t →
    phase old t ≡ Opened f → group_of o k t ≡ old → j ≤ k →
    successor j t ≡ Some h → rebuild h t ≡ Some f → next_of o h t ≡ 0 → AnswersForNew o old k h t
end_before o t old f k h j valid at own le s made e = ⊎_elim
    (λ (z : (next_of o h t ≡ 0) × ((m : ℕ) → j ≤ m → m ≤ end_of o j → successor m t ≡ Some h)).
    inl (own, z.1 k le same_part_end))
    (λ (z : (x : ℕ) × (i : ℕ) × (j ≤ i) × (i < end_of o j) × (next_of o h t ≡ x + 1)
    × NewNext o f x i t × ((m : ℕ) → j ≤ m → m ≤ i → successor m t ≡ Some h)).
    let bad : 0 ≡ z.0 + 1 = sym e ∙ z.4 in absurd (omega (arith, bad)))
    (new_scan o t f h valid (k, here) made top.0 j top.1 s)
  where
    here : phase (group_of o k t) t ≡ Opened f
    here = ap (λ (y : ℕ). phase y t) own ∙ at

    key : k ≤ greatest_key
    key = let m = (under_way_holds o t valid f (k, here)).planned k here in
        ((keys_hold o t valid).new k m.0 m.1).0

    -- the key is not behind the part of the walk
    same_part_end : k ≤ end_of o j
    same_part_end =
        let mine = own_part o t old f k valid at own in
        let new = rebuild_in_part o t valid h f made in
        let there = part_of_key o (part_of o h) j
        (group-part (shape o) h (successor_exists o t j h valid s)) (successor_in_part o t j h valid s)
        in
        let ends : last_key o (part_of o h) ≡ last_key o (part_of o f) = ap (last_key o) (sym new) in
        let to = mine.to in
        omega (arith, to, ends, there.1)

    top : (d : ℕ) × (j + d ≡ end_of o j)
    top = to_top o j (omega (arith, le, key))

end_after : (o : Opening) (t : Execution) (old k h j : ℕ) → Valid o t → k ≤ greatest_key →
    predecessor o k t ≡ Some old → j ≤ k → group_of o j t ≡ h → start_of o k ≤ j →
    next_of o h t ≡ 0 → AnswersForNew o old k h t
end_after o t old k h j valid key was le at starts e = ⊎_elim
    (λ (z : (next_of o h t ≡ 0) × ((m : ℕ) → j ≤ m → m ≤ end_of o j → group_of o m t ≡ h)).
    let lies = key_lies o k key in
    let same = same_end o k j starts (omega (arith, le, lies.1)) in
    inr (was, z.1 k le (omega (arith, lies.1, same))))
    (λ (z : (i : ℕ) × (j ≤ i) × (i < end_of o j) × (next_of o h t ≡ group_of o (i + 1) t + 1)
    × (pivot_of o (group_of o (i + 1) t) t ≡ i + 1)
    × ((m : ℕ) → j ≤ m → m ≤ i → group_of o m t ≡ h)).
    let bad : 0 ≡ group_of o (z.0 + 1) t + 1 = sym e ∙ z.3 in absurd (omega (arith, bad)))
    (chain_scan o t h j valid (omega (arith, le, key)) at)

pub new_ends : NewWalksEnd
new_ends o c old f h k is key t valid s at from = ⊎_elim
    (λ (z : (j : ℕ) × (group_of o k t ≡ old) × (pivot_of o f t ≤ j) × (j ≤ k)
    × (successor j t ≡ Some h) × (rebuild h t ≡ Some f)).
    end_before o t old f k h z.0 valid.1 at z.1 z.3 z.4 z.5 valid.0.found_word)
    (λ (z : (j : ℕ) × (predecessor o k t ≡ Some old) × (j ≤ k) × (group_of o j t ≡ h)
    × (start_of o k ≤ j)).
    end_after o t old k h z.0 valid.1 key z.1 z.2 z.3 z.4 valid.0.found_word) from

-- ---- what it says of the key ----

pub new_behind : NewAnswersAreBehind
new_behind o t valid c old f k h is s at a = ⊎_elim
    (λ (z : (group_of o k t ≡ old) × (successor k t ≡ Some h)).
    let here : phase (group_of o k t) t ≡ Opened f = ap (λ (y : ℕ). phase y t) z.0 ∙ at in
    let m = (under_way_holds o t valid f (k, here)).planned k here in
    let same : m.0 ≡ h = some_is (sym m.1 ∙ z.1) in
    (inl (z.0, at, z.1), ap (λ (y : ℕ). rebuild y t) (sym same) ∙ m.2))
    (λ (z : (predecessor o k t ≡ Some old) × (group_of o k t ≡ h)).
    let p = groups_before_are_opened o t valid k old z.0 in
    let name : p.0 ≡ f = opened_is (sym p.1 ∙ at) in (
      inr (z.1, λ b role. arrives_late o t valid c k old h is s z.0 z.1 b role),
      ap (λ (y : ℕ). rebuild y t) (sym z.1) ∙ (p.2 ∙ ap Some name),
    )) a

pub new_stay : NewWalksStay
new_stay o c old f k h is n t valid stay s at =
    let m = stays o c old f k is n t valid stay s at in (m.0, (m.1 h, m.2 h))
