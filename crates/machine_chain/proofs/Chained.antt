-- The groups of the chain lead from key range to key range.
use Rattle.std.proofs.Common.{◌≡◌, ◌≢◌, ℕ, ◌+◌, ◌<◌, ◌≤◌, ◌⊎◌, inl, inr, ⊎_elim, Some, Bool, true}
use Rattle.std.proofs.Common.{false, [], ◌∷◌, refl, sym, ap, ◌∙◌, subst, cond, arith, eq-eqb}
use Rattle.std.specs.Prelude.{◌==◌}
use Rattle.index_machine.specs.Conditions.{Allowed, Valid}
use Rattle.index_machine.specs.Execution.{Execution, event}
use Rattle.index_machine.specs.Groups.{phase, rebuild}
use Rattle.index_machine.specs.KeyRanges.{group_of, successor}
use Rattle.index_machine.specs.Openings.{opening_group, within}
use Rattle.word_layout.specs.Parts.{greatest_key}
use Rattle.index_machine.specs.Permissions.{AreGone}
use Rattle.index_machine.specs.RebuildConditions.{IsInstallWord, MayInstall, part_of_spot}
use Rattle.index_machine.specs.declared.events.Action.{Action}
use Rattle.index_machine.specs.declared.events.Action.TheVariants.{Install}
use Rattle.index_machine.specs.declared.events.InstallWord.{InstallWord}
use Rattle.index_machine.specs.declared.events.InstallWord.TheVariants.{FirstSlot, NextOf}
use Rattle.index_machine.specs.declared.opening.Opening.{Opening}
use Rattle.machine_buffers.proofs.OutOfUse.{group_in, group_out}
use Rattle.index_machine.proofs.Ranges.{in_range, range_in}
use Rattle.machine_chain.proofs.Cases.{both_ways, in_or_out, le_or_lt}
use Rattle.machine_chain.proofs.UnderWay.{under_way_holds}
use Rattle.machine_chain.proofs.Words.{chained_next, chained_pivot, never}
use Rattle.machine_chain.proofs.Words.{next_same}
use Rattle.machine_chain.specs.Chain.{IsChained, end_of, next_of, pivot_of, start_of}
use Rattle.machine_chain.proofs.PartKeys.{end_is_key, next_key, part_of_key, same_part}
use Rattle.index_machine.specs.Keepers.{IsKeyIn, IsPart, first_key, last_key, part_of}
use Rattle.index_machine.specs.Sections.{IsHand}
use Rattle.index_machine.specs.Words.{shape}
use Rattle.index_machine.specs.OpeningRows.{opening_pivot}
use Rattle.index_machine.proofs.OfParts.{group_exists, group_in_part, key_between, key_in_part, key_most}
use Rattle.index_machine.proofs.OfParts.{opened_in_part, spot_is_part}
use Rattle.index_machine.proofs.OpeningGroups.{opening_group-chain, opening_group-first, opening_next-group}
use Rattle.index_machine.proofs.OpeningGroups.{opening_next-last}
use Rattle.word_layout.specs.Parts.{part_with}
use Rattle.word_layout.proofs.KeySpace.{first_key-within}
use Rattle.word_layout.proofs.PartGroups.{part_with-within}
use Rattle.index_machine.proofs.Options.{some_is}
use Rattle.word_layout.specs.declared.phase.Phase.TheVariants.{Opened}

-- ---- installs ----

-- the keys of an install are keys
pub install_keys : (o : Opening) (t : Execution) (b : ℕ) (spot : InstallWord) (lead low high : ℕ) →
    MayInstall o t b spot lead low high → (low ≤ high) × (high ≤ greatest_key)
install_keys o t b spot lead low high may =
    let r = in_range low high low may.first.0 in
    (r.1, key_most o (part_of_spot o spot) high may.in_part.1)

-- they lie in one part, which begins and ends where theirs do
pub install_part : (o : Opening) (t : Execution) (b : ℕ) (spot : InstallWord) (lead low high k : ℕ) →
    IsHand o b → MayInstall o t b spot lead low high → low ≤ k → k ≤ high →
    (start_of o k ≡ first_key o (part_of_spot o spot))
    × (end_of o k ≡ last_key o (part_of_spot o spot))
install_part o t b spot lead low high k is_hand may above below =
    part_of_key o (part_of_spot o spot) k (spot_is_part o t b spot lead low high is_hand may)
    (key_between o (part_of_spot o spot) low high k may.in_part.0 may.in_part.1 above below)

-- an install by the next word of a group
abbrev pub InstallsBehind : ℕ → InstallWord → Type 0
InstallsBehind g spot = spot ≡ NextOf g

spot_is : {s r : InstallWord} {a b c x y z : ℕ} → Install s a b c ≡ Install r x y z → s ≡ r
spot_is e = cc

-- the group behind whose next word the new groups are installed ends where they begin
pub left_of : (o : Opening) (t : Execution) (b : ℕ) (spot : InstallWord) (lead low high g : ℕ) →
    MayInstall o t b spot lead low high → InstallsBehind g spot →
    (j : ℕ) × (low ≡ j + 1) × (group_of o j t ≡ g)
left_of o t b spot lead low high g may e =
    subst (λ (y : InstallWord). IsInstallWord o t low y) e may.leads

-- a key before the first one is not among those of the install
pub before_low : (low high k j : ℕ) → low ≡ j + 1 → k ≤ j → within low k high ≡ false
before_low low high k j e le = ⊎_elim
    (λ (z : within low k high ≡ true). let r = in_range low high k z in absurd (omega (arith, r.0)))
    (λ (z : within low k high ≡ false). z) (in_or_out (within low k high))

-- the key before the first one is of the same part
pub left_in_part : (o : Opening) (t : Execution) (b : ℕ) (spot : InstallWord) (lead low high g j : ℕ) →
    Valid o t → IsHand o b → MayInstall o t b spot lead low high → InstallsBehind g spot →
    low ≡ j + 1 → group_of o j t ≡ g → j < end_of o j
left_in_part o t b spot lead low high g j valid is_hand may e next at =
    let keys = install_keys o t b spot lead low high may in
    let is_part = spot_is_part o t b spot lead low high is_hand may in
    let part : part_of o g ≡ part_of_spot o spot = sym (ap (part_of_spot o) e) in
    let exists = group_exists o t j valid (omega (arith, keys.0, keys.1, next)) in
    let here : IsKeyIn o (part_of_spot o spot) j =
    subst (λ (p : ℕ). IsKeyIn o p j) (ap (part_of o) at ∙ part) (key_in_part o t j valid exists)
    in
    let ends = (part_of_key o (part_of_spot o spot) j is_part here).1 in
    let low_in = may.in_part.0.to in
    omega (arith, next, ends, low_in)

left_boundary : (o : Opening) (t : Execution) (b : ℕ) (spot : InstallWord)
    (lead low high g : ℕ) → Valid o t → IsHand o b → MayInstall o t b spot lead low high →
    IsChained o t → InstallsBehind g spot →
    (next_of o g t ≡ group_of o low t + 1) × (pivot_of o (group_of o low t) t ≡ low)
left_boundary o t b spot lead low high g valid is_hand may old e =
    let l = left_of o t b spot lead low high g may e in
    let inner = left_in_part o t b spot lead low high g l.0 valid is_hand may e l.1 l.2 in
    let out : within low l.0 high ≡ false = before_low low high l.0 l.0 l.1 (omega arith) in
    let apart : g ≢ group_of o low t = λ z.
    both_ways may.first.0 (sym (may.whole l.0 low (l.2 ∙ z)) ∙ out) in
    let m = old.next l.0 g (group_of o low t) inner l.2
    (ap (λ (y : ℕ). group_of o y t) (sym l.1)) apart in
    (m.0, m.1 ∙ sym l.1)

pub install_pivot : (o : Opening) (t : Execution) (b : ℕ) (spot : InstallWord)
    (lead low high g : ℕ) →
    pivot_of o g (event b (Install spot lead low high) ∷ t) ≡ pivot_of o g t
install_pivot o t b (NextOf left) lead low high g = never (left == g) _ (pivot_of o g t)
install_pivot o t b (FirstSlot q s) lead low high g = refl

pub install_next : (o : Opening) (t : Execution) (b lead low high g : ℕ) →
    next_of o g (event b (Install (NextOf g) lead low high) ∷ t) ≡ lead + 1
install_next o t b lead low high g = rw (eq-eqb g g refl) refl

-- ---- the induction at an install ----

module _ (o : Opening) (t : Execution) (b : ℕ) (spot : InstallWord) (lead low high : ℕ)
    (valid : Valid o t) (is_hand : IsHand o b) (may : MayInstall o t b spot lead low high)
    (old : IsChained o t) where
  abbrev pub T : Execution
  T = event b (Install spot lead low high) ∷ t

  keys : (low ≤ high) × (high ≤ greatest_key)
  keys = install_keys o t b spot lead low high may

  -- the groups that go are of the part
  of_spot : (k : ℕ) → within low k high ≡ true → part_of o (group_of o k t) ≡ part_of_spot o spot
  of_spot k here =
      let r = in_range low high k here in
      group_in_part o t (part_of_spot o spot) k valid
      (spot_is_part o t b spot lead low high is_hand may)
      (key_between o (part_of_spot o spot) low high k may.in_part.0 may.in_part.1 r.0 r.1)

  -- a new group is in no key range yet
  new_unchained : (k g f j : ℕ) → phase (group_of o k t) t ≡ Opened f → rebuild g t ≡ Some f →
      group_of o j t ≢ g
  new_unchained k g f j at made = (under_way_holds o t valid f (k, at)).unchained j g made

  next_on : (g : ℕ) → (InstallsBehind g spot → ⊥) → (k : ℕ) →
      (group_of o k t ≡ g) ⊎ (successor k t ≡ Some g) → next_of o g T ≡ next_of o g t
  next_on g other k used = ⊎_elim (λ (z : next_of o g T ≡ next_of o g t). z)
      (λ z. absurd (other (spot_is z.3)))
      (next_same o t b (Install spot lead low high) g may (λ gone s u. ⊎_elim
      (λ (z : group_of o k t ≡ g). gone.unowned k z) (λ (z : successor k t ≡ Some g). u k z) used))

  -- a new group keeps its next word
  new_next : (k g : ℕ) → within low k high ≡ true → successor k t ≡ Some g →
      next_of o g T ≡ next_of o g t
  new_next k g here e = let m = may.opened k here in
      let same : m.1 ≡ g = some_is (sym m.3 ∙ e) in
      next_on g (λ z. let l = left_of o t b spot lead low high g may z in
      new_unchained k g m.0 l.0 m.2 (ap (λ (y : ℕ). rebuild y t) (sym same) ∙ m.4) l.2) k (inr e)

  out_of : (k : ℕ) → within low k high ≡ false → group_of o k T ≡ group_of o k t
  out_of k out = group_out o t b spot lead low high k out

  both_out : (k g h : ℕ) → k < end_of o k → group_of o k T ≡ g → group_of o (k + 1) T ≡ h →
      g ≢ h → within low k high ≡ false → within low (k + 1) high ≡ false →
      (next_of o g T ≡ h + 1) × (pivot_of o h T ≡ k + 1)
  both_out k g h lt is at n out out1 =
      let is' : group_of o k t ≡ g = sym (out_of k out) ∙ is in
      let at' : group_of o (k + 1) t ≡ h = sym (out_of (k + 1) out1) ∙ at in
      let m = old.next k g h lt is' at' n in (
        next_on g (λ z. let l = left_boundary o t b spot lead low high g valid is_hand may old z in
            let eq : group_of o low t + 1 ≡ h + 1 = sym l.0 ∙ m.0 in
            let same : group_of o low t ≡ h = omega (arith, eq) in
            let key : low ≡ k + 1 = sym l.1 ∙ (ap (λ (y : ℕ). pivot_of o y t) same ∙ m.1) in
            both_ways may.first.0 (ap (λ (y : ℕ). within low y high) key ∙ out1)) k (inl is') ∙ m.0,
        install_pivot o t b spot lead low high h ∙ m.1,
      )

  into : (k g h : ℕ) → k < end_of o k → group_of o k T ≡ g → group_of o (k + 1) T ≡ h →
      within low k high ≡ false → within low (k + 1) high ≡ true →
      (next_of o g T ≡ h + 1) × (pivot_of o h T ≡ k + 1)
  into k g h lt is at out here =
      let r = in_range low high (k + 1) here in
      let less : k < low = ⊎_elim
      (λ (z : low ≤ k). absurd (both_ways (range_in low high k z (omega (arith, r.1))) out))
      (λ (z : k < low). z) (le_or_lt low k) in
      let key : low ≡ k + 1 = omega (arith, r.0, less) in
      let led : successor (k + 1) t ≡ Some lead =
      ap (λ (y : ℕ). successor y t) (sym key) ∙ may.first.1 in
      let new : lead ≡ h = sym (group_in o t b spot lead low high (k + 1) lead here led) ∙ at in
      let is' : group_of o k t ≡ g = sym (out_of k out) ∙ is in (
        stored spot may.leads (install_part o t b spot lead low high (k + 1) is_hand may r.0 r.1).0 key is'
            ∙ ap (λ (y : ℕ). y + 1) new,
        install_pivot o t b spot lead low high h
            ∙ (ap (λ (y : ℕ). pivot_of o y t) (sym new) ∙ (may.starts ∙ key)),
      )
    where
      stored : (s : InstallWord) → IsInstallWord o t low s →
          start_of o (k + 1) ≡ first_key o (part_of_spot o s) → low ≡ k + 1 → group_of o k t ≡ g →
          next_of o g (event b (Install s lead low high) ∷ t) ≡ lead + 1
      stored (FirstSlot part side) l starts key is' =
          let same = next_key o k lt in
          let first = l.0 in
          absurd (omega (arith, key, first, starts, same.0, same.2))
      stored (NextOf left) l starts key is' =
          let e : l.0 ≡ k = omega (arith, key, l.1) in
          let same : left ≡ g = sym l.2 ∙ (ap (λ (y : ℕ). group_of o y t) e ∙ is') in
          subst (λ (y : ℕ). next_of o g (event b (Install (NextOf y) lead low high) ∷ t) ≡ lead + 1)
          (sym same) (install_next o t b lead low high g)

  out_again : (k g h : ℕ) → k < end_of o k → group_of o k T ≡ g → group_of o (k + 1) T ≡ h →
      within low k high ≡ true → within low (k + 1) high ≡ false →
      (next_of o g T ≡ h + 1) × (pivot_of o h T ≡ k + 1)
  out_again k g h lt is at here out =
      let r = in_range low high k here in
      let less : high < k + 1 = ⊎_elim
      (λ (z : k + 1 ≤ high).
      absurd (both_ways (range_in low high (k + 1) (omega (arith, r.0)) z) out))
      (λ (z : high < k + 1). z) (le_or_lt (k + 1) high) in
      let key : high ≡ k = omega (arith, r.1, less) in
      let m = may.opened k here in
      let new : m.1 ≡ g = sym (group_in o t b spot lead low high k m.1 here m.3) ∙ is in
      let at' : group_of o (k + 1) t ≡ h = sym (out_of (k + 1) out) ∙ at in
      let made : successor k t ≡ Some g = m.3 ∙ ap Some new in
      let e = may.ends g (ap (λ (y : ℕ). successor y t) key ∙ made) in
      let apart : group_of o k t ≢ h = λ z.
      both_ways here (may.whole k (k + 1) (z ∙ sym at') ∙ out) in
      let p = old.next k (group_of o k t) h lt refl at' apart in (
        new_next k g here made ∙ ⊎_elim
            (λ (z : (high ≡ last_key o (part_of_spot o spot)) × (next_of o g t ≡ 0)).
            let mine = (install_part o t b spot lead low high k is_hand may r.0 r.1).1 in
            absurd (omega (arith, lt, key, z.0, mine)))
            (λ (z : (high < last_key o (part_of_spot o spot))
            × (next_of o g t ≡ group_of o (high + 1) t + 1)).
            z.1 ∙ ap (λ (y : ℕ). y + 1) (ap (λ (y : ℕ). group_of o (y + 1) t) key ∙ at')) e,
        install_pivot o t b spot lead low high h ∙ p.1,
      )

  within_new : (k g h : ℕ) → group_of o k T ≡ g → group_of o (k + 1) T ≡ h → g ≢ h →
      within low k high ≡ true → within low (k + 1) high ≡ true →
      (next_of o g T ≡ h + 1) × (pivot_of o h T ≡ k + 1)
  within_new k g h is at n here here1 =
      let m = may.opened k here in let l = may.opened (k + 1) here1 in
      let new : m.1 ≡ g = sym (group_in o t b spot lead low high k m.1 here m.3) ∙ is in
      let new1 : l.1 ≡ h = sym (group_in o t b spot lead low high (k + 1) l.1 here1 l.3) ∙ at in
      let under = under_way_holds o t valid m.0 (k, m.2) in
      let in_one : part_of o (group_of o (k + 1) t) ≡ part_of o m.0 =
      of_spot (k + 1) here1 ∙ (sym (of_spot k here)
      ∙ sym (opened_in_part o t valid (group_of o k t) m.0 m.2))
      in
      let same : l.0 ≡ m.0 = ⊎_elim
      (λ (z : (l.0 ≡ m.0) × ((j : ℕ) × (group_of o j t ≡ group_of o (k + 1) t))). z.0)
      (λ (z : AreGone o l.0 t). absurd ((z (group_of o (k + 1) t) l.2).unowned (k + 1) refl))
      (under.alone (group_of o (k + 1) t) l.0 in_one l.2) in
      let sg : successor k t ≡ Some g = m.3 ∙ ap Some new in
      let c = under.chained k g h (ap (λ (y : ℕ). rebuild y t) (sym new) ∙ m.4)
      (ap (λ (y : ℕ). rebuild y t) (sym new1) ∙ (l.4 ∙ ap Some same)) sg (l.3 ∙ ap Some new1) n in (
        new_next k g here sg ∙ c.0,
        install_pivot o t b spot lead low high h ∙ c.1,
      )

  pub chain_install : IsChained o T
  chain_install = record {
    next = λ k g h lt is at n. ⊎_elim
        (λ (here : within low k high ≡ true). ⊎_elim
        (λ (here1 : within low (k + 1) high ≡ true). within_new k g h is at n here here1)
        (λ (out1 : within low (k + 1) high ≡ false). out_again k g h lt is at here out1)
        (in_or_out (within low (k + 1) high)))
        (λ (out : within low k high ≡ false). ⊎_elim
        (λ (here1 : within low (k + 1) high ≡ true). into k g h lt is at out here1)
        (λ (out1 : within low (k + 1) high ≡ false). both_out k g h lt is at n out out1)
        (in_or_out (within low (k + 1) high)))
        (in_or_out (within low k high));
    first = λ k g starts is. ⊎_elim
        (λ (here : within low k high ≡ true).
        let r = in_range low high k here in
        let mine = (install_part o t b spot lead low high k is_hand may r.0 r.1).0 in
        let from = may.in_part.0.from in
        let first_low : low ≡ k = omega (arith, r.0, starts, mine, from) in
        let led : successor k t ≡ Some lead =
        ap (λ (y : ℕ). successor y t) (sym first_low) ∙ may.first.1 in
        let new : lead ≡ g = sym (group_in o t b spot lead low high k lead here led) ∙ is in
        install_pivot o t b spot lead low high g
        ∙ (ap (λ (y : ℕ). pivot_of o y t) (sym new) ∙ (may.starts ∙ first_low)))
        (λ (out : within low k high ≡ false).
        install_pivot o t b spot lead low high g ∙ old.first k g starts (sym (out_of k out) ∙ is))
        (in_or_out (within low k high));
    last = λ k g ends is. ⊎_elim
        (λ (here : within low k high ≡ true).
        let r = in_range low high k here in
        let mine = (install_part o t b spot lead low high k is_hand may r.0 r.1).1 in
        let to = may.in_part.1.to in
        let key : high ≡ k = omega (arith, r.1, ends, mine, to) in
        let m = may.opened k here in
        let new : m.1 ≡ g = sym (group_in o t b spot lead low high k m.1 here m.3) ∙ is in
        let made : successor k t ≡ Some g = m.3 ∙ ap Some new in
        new_next k g here made ∙ ⊎_elim
        (λ (z : (high ≡ last_key o (part_of_spot o spot)) × (next_of o g t ≡ 0)). z.1)
        (λ (z : (high < last_key o (part_of_spot o spot))
        × (next_of o g t ≡ group_of o (high + 1) t + 1)).
        absurd (omega (arith, key, ends, mine, z.0)))
        (may.ends g (ap (λ (y : ℕ). successor y t) key ∙ made)))
        (λ (out : within low k high ≡ false).
        let is' : group_of o k t ≡ g = sym (out_of k out) ∙ is in
        next_on g (λ z. let l = left_boundary o t b spot lead low high g valid is_hand may old z in
        let bad : 0 ≡ group_of o low t + 1 = sym (old.last k g ends is') ∙ l.0 in
        absurd (omega (arith, bad)))
        k (inl is') ∙ old.last k g ends is')
        (in_or_out (within low k high));
  }

-- ---- the other actions ----

module _ (o : Opening) (t : Execution) (b : ℕ) (d : Action) (may : Allowed o t b d)
    (groups : (k : ℕ) → group_of o k (event b d ∷ t) ≡ group_of o k t)
    (no_install : (spot : InstallWord) (lead low high : ℕ) → d ≢ Install spot lead low high) where
  pub still_next : (g k : ℕ) → group_of o k t ≡ g → next_of o g (event b d ∷ t) ≡ next_of o g t
  still_next g k e = ⊎_elim (λ (z : next_of o g (event b d ∷ t) ≡ next_of o g t). z)
      (λ z. absurd (no_install _ z.0 z.1 z.2 z.3)) (chained_next o t b d g k may e)

  pub chain_kept : IsChained o t → IsChained o (event b d ∷ t)
  chain_kept old = record {
    next = λ k g h lt is at n.
        let is' : group_of o k t ≡ g = sym (groups k) ∙ is in
        let at' : group_of o (k + 1) t ≡ h = sym (groups (k + 1)) ∙ at in
        let m = old.next k g h lt is' at' n in
        (still_next g k is' ∙ m.0, chained_pivot o t b d h (k + 1) may at' ∙ m.1);
    first = λ k g starts is. let is' : group_of o k t ≡ g = sym (groups k) ∙ is in
        chained_pivot o t b d g k may is' ∙ old.first k g starts is';
    last = λ k g ends is. let is' : group_of o k t ≡ g = sym (groups k) ∙ is in
        still_next g k is' ∙ old.last k g ends is';
  }

chain_step : (o : Opening) (t : Execution) (b : ℕ) (d : Action) → Valid o (event b d ∷ t) →
    IsChained o t → IsChained o (event b d ∷ t)
chain_step o t b (Install spot lead low high) valid old =
    chain_install o t b spot lead low high valid.1 valid.2 valid.0 old
chain_step o t b d valid old =
    chain_kept o t b d valid.0 (λ k. refl) (λ spot lead low high z. let bad = z in cc) old

-- ---- at the opening ----

-- the part of a key
key_part : (o : Opening) (k : ℕ) → IsPart o (part_with (shape o).bounds k)
key_part o k = part_with-within (shape o).bounds k

opening_leads : (o : Opening) (k : ℕ) → k < end_of o k → opening_group o k ≢ opening_group o (k + 1) →
    (next_of o (opening_group o k) [] ≡ opening_group o (k + 1) + 1)
    × (pivot_of o (opening_group o (k + 1)) [] ≡ k + 1)
opening_leads o k lt differ =
    let part : ℕ = part_with (shape o).bounds k in
    let low = (next_key o k lt).2 in
    let leads = opening_next-group o part k (key_part o k) (record { from = low; to = omega arith })
    (record { from = omega arith; to = omega arith }) differ in
    let small = end_is_key o k in
    let g : ℕ = opening_group o (k + 1) in (
      leads.0,
      ap (λ (w : Bool). cond w (opening_pivot o g) 0) (opening_group-chain o (k + 1) (omega arith)) ∙ leads.1,
    )

-- the pivot of the group of a part's least key is this key
opening_first : (o : Opening) (k : ℕ) → k ≡ start_of o k → pivot_of o (opening_group o k) [] ≡ k
opening_first o k starts =
    let part : ℕ = part_with (shape o).bounds k in
    let small : first_key o part ≤ greatest_key =
    first_key-within (shape o).bounds part o.layout.cut (key_part o k)
    in
    let chained = opening_group-chain o (first_key o part) small in
    subst (λ (j : ℕ). pivot_of o (opening_group o j) [] ≡ j) (sym starts)
    (ap (λ (w : Bool). cond w (opening_pivot o (opening_group o (first_key o part))) 0) chained
    ∙ (opening_group-first o part (key_part o k)).1)

pub groups_chained : (o : Opening) (t : Execution) → Valid o t → IsChained o t
groups_chained o [] valid = record {
  next = λ k g h lt is at n.
      let leads = opening_leads o k lt (λ e. n (sym is ∙ (e ∙ at))) in (
        ap (λ (y : ℕ). next_of o y []) (sym is) ∙ (leads.0 ∙ ap (λ (y : ℕ). y + 1) at),
        ap (λ (y : ℕ). pivot_of o y []) (sym at) ∙ leads.1,
      );
  first = λ k g starts is.
      ap (λ (y : ℕ). pivot_of o y []) (sym is) ∙ opening_first o k starts;
  last = λ k g ends is.
      ap (λ (y : ℕ). next_of o y []) (sym is ∙ ap (opening_group o) ends)
      ∙ opening_next-last o (part_with (shape o).bounds k) (key_part o k);
}
groups_chained o (e ∷ t) valid =
    chain_step o t e.by e.action valid (groups_chained o t valid.1)
