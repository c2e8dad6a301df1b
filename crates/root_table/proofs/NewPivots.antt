-- Along the new groups of a rebuild pivots rise, for a caller of an old one.
use Rattle.std.proofs.Common.{◌≡◌, ◌≢◌, ℕ, zero, suc, ◌+◌, ◌-◌, ◌<◌, ◌≤◌, inl, ⊎_elim, true, Some, sym, ap, ◌∙◌}
use Rattle.std.proofs.Common.{arith}
use mathlib.Core.Logic.{dite}
use native.Mathlib.Decide.{ℕ_discrete}
use Rattle.word_layout.specs.declared.phase.Phase.TheVariants.{Opened}
use Rattle.word_layout.specs.Parts.{greatest_key}
use Rattle.word_layout.specs.Shape.{group_total}
use Rattle.index_machine.specs.declared.opening.Opening.{Opening}
use Rattle.index_machine.specs.Conditions.{Valid}
use Rattle.index_machine.specs.Execution.{Execution}
use Rattle.index_machine.specs.Groups.{phase, rebuild}
use Rattle.index_machine.specs.KeyRanges.{group_of, predecessor, successor}
use Rattle.index_machine.specs.Reaching.{stands_in}
use Rattle.index_machine.specs.RebuildConditions.{AreChained, HasNewGroup, IsBehindFirst}
use Rattle.index_machine.specs.Sections.{IsCaller}
use Rattle.index_machine.specs.Words.{shape}
use Rattle.index_machine.proofs.Options.{some_is}
use Rattle.machine_chain.proofs.Cases.{le_or_lt}
use Rattle.machine_chain.proofs.NewGroups.{keys_hold}
use Rattle.machine_chain.proofs.PartKeys.{end_is_key}
use Rattle.machine_chain.proofs.Pivots.{chain_back}
use Rattle.machine_chain.proofs.Rising.{new_lead, walk_rises}
use Rattle.machine_chain.proofs.UnderWay.{under_way_holds}
use Rattle.machine_chain.proofs.Walking.{least_keys, lead_on}
use Rattle.machine_chain.specs.Chain.{next_of, pivot_of, start_of}
use Rattle.machine_chain.specs.Walks.{BeginsBeforeNew}
use Rattle.root_table.proofs.InTable.{answers_exist}

-- the pivot of a new group is not above any of its keys
least_new : (o : Opening) (t : Execution) (first k : ℕ) → IsBehindFirst o first k t → AreChained o first t →
    (d j h : ℕ) → j ≡ pivot_of o first t + d → j ≤ k → successor j t ≡ Some h → rebuild h t ≡ Some first →
    pivot_of o h t ≤ j
least_new o t first k behind chained zero j h is le s made =
    let at : pivot_of o first t ≡ j = omega (arith, is) in
    let same : first ≡ h = some_is (sym behind.1 ∙ (ap (λ (z : ℕ). successor z t) at ∙ s)) in
    let low : pivot_of o h t ≡ pivot_of o first t = ap (λ (z : ℕ). pivot_of o z t) (sym same) in
    omega (arith, low, at)
least_new o t first k behind chained (suc d) j h is le s made =
    let m : ℕ = pivot_of o first t + d in
    let next : m + 1 ≡ j = omega (arith, is) in
    let new = behind.2 m (omega arith) (omega (arith, next, le)) in
    dite (ℕ_discrete new.0 h)
    (λ (same : new.0 ≡ h).
    let low = least_new o t first k behind chained d m h (omega arith) (omega (arith, next, le))
    (new.1 ∙ ap Some same) made in
    omega (arith, low, next))
    (λ (else : new.0 ≢ h).
    let p = (chained m new.0 h new.2 made new.1 (ap (λ (z : ℕ). successor z t) next ∙ s) else).1 in
    omega (arith, p, next))

module _ (o : Opening) (t : Execution) (valid : Valid o t) (c old first key group : ℕ) (is : IsCaller o c)
    (most : key ≤ greatest_key) (at : phase old t ≡ Opened first) (there : stands_in c group t ≡ true)
    (begins : BeginsBeforeNew o old first key group t) where
  -- the new group is of the table
  pub new_exists : group < group_total (shape o)
  new_exists =
      ⊎_elim
      (λ (z : (j : ℕ) × (group_of o key t ≡ old) × (pivot_of o first t ≤ j) × (j ≤ key)
      × (successor j t ≡ Some group) × (rebuild group t ≡ Some first)).
      ((keys_hold o t valid).new z.0 group z.4).1)
      (λ (z : (j : ℕ) × (predecessor o key t ≡ Some old) × (j ≤ key) × (group_of o j t ≡ group)
      × (start_of o key ≤ j)).
      let low = z.2 in
      answers_exist o t valid z.0 group (omega (arith, low, most)) (inl z.3)) begins

  -- it begins at its pivot, or before the key at least
  pub new_below : pivot_of o group t ≤ key
  new_below =
      ⊎_elim
      (λ (z : (j : ℕ) × (group_of o key t ≡ old) × (pivot_of o first t ≤ j) × (j ≤ key)
      × (successor j t ≡ Some group) × (rebuild group t ≡ Some first)).
      let holds = under_way_holds o t valid first (key, ap (λ (y : ℕ). phase y t) z.1 ∙ at) in
      let low = least_new o t first key (holds.behind key (ap (λ (y : ℕ). phase y t) z.1 ∙ at)) holds.chained
      (z.0 - pivot_of o first t) z.0 group (above z.0 z.2) z.3 z.4 z.5 in
      let le = z.3 in
      omega (arith, low, le))
      (λ (z : (j : ℕ) × (predecessor o key t ≡ Some old) × (j ≤ key) × (group_of o j t ≡ group)
      × (start_of o key ≤ j)).
      let le = z.2 in
      let low = (least_keys o t valid c group z.0 is there (omega (arith, le, most)) (inl z.3)).low in
      omega (arith, low, le)) begins
    where
      above : (j : ℕ) → pivot_of o first t ≤ j → j ≡ pivot_of o first t + (j - pivot_of o first t)
      above j le = omega (arith, le)

  module _ (next : ℕ) (names : next_of o group t ≡ next + 1) where
    -- the next one is of the table
    pub next_new_exists : next < group_total (shape o)
    next_new_exists =
        ⊎_elim
        (λ (z : (j : ℕ) × (group_of o key t ≡ old) × (pivot_of o first t ≤ j) × (j ≤ key)
        × (successor j t ≡ Some group) × (rebuild group t ≡ Some first)).
        let m = (new_lead o t valid first group z.0 (key, ap (λ (y : ℕ). phase y t) z.1 ∙ at) z.5 z.4).next next
        names in
        let below = m.2 in
        let end = end_is_key o z.0 in
        ⊎_elim
        (λ (y : (successor (m.0 + 1) t ≡ Some next) × (rebuild next t ≡ Some first)
        × (pivot_of o next t ≡ m.0 + 1)). ((keys_hold o t valid).new (m.0 + 1) next y.0).1)
        (λ (y : (HasNewGroup first (m.0 + 1) t → ⊥) × (group_of o (m.0 + 1) t ≡ next)).
        answers_exist o t valid (m.0 + 1) next (omega (arith, below, end)) (inl y.1)) m.3)
        (λ (z : (j : ℕ) × (predecessor o key t ≡ Some old) × (j ≤ key) × (group_of o j t ≡ group)
        × (start_of o key ≤ j)).
        let le = z.2 in
        let m = (lead_on o t valid c group z.0 is there (omega (arith, le, most)) (inl z.3)).next next names in
        let below = m.2 in
        let end = end_is_key o z.0 in
        answers_exist o t valid (m.0 + 1) next (omega (arith, below, end)) m.4) begins

    -- and its pivot is greater, where this is at most the key
    pub rises_new : pivot_of o next t ≤ key → pivot_of o group t < pivot_of o next t
    rises_new near =
        ⊎_elim
        (λ (z : (j : ℕ) × (group_of o key t ≡ old) × (pivot_of o first t ≤ j) × (j ≤ key)
        × (successor j t ≡ Some group) × (rebuild group t ≡ Some first)).
        before z.0 z.1 z.2 z.3 z.4 z.5)
        (λ (z : (j : ℕ) × (predecessor o key t ≡ Some old) × (j ≤ key) × (group_of o j t ≡ group)
        × (start_of o key ≤ j)).
        let le = z.2 in
        walk_rises o t valid c group next z.0 is there (omega (arith, le, most)) (inl z.3) names) begins
      where
        before : (j : ℕ) → group_of o key t ≡ old → pivot_of o first t ≤ j → j ≤ key →
            successor j t ≡ Some group → rebuild group t ≡ Some first →
            pivot_of o group t < pivot_of o next t
        before j own low le s made =
            let here : phase (group_of o key t) t ≡ Opened first = ap (λ (y : ℕ). phase y t) own ∙ at in
            let holds = under_way_holds o t valid first (key, here) in
            let least = least_new o t first key (holds.behind key here) holds.chained
            (j - pivot_of o first t) j group (above j low) le s made in
            let m = (new_lead o t valid first group j (key, here) made s).next next names in
            let far = m.1 in
            let lt = m.2 in
            ⊎_elim
            (λ (y : (successor (m.0 + 1) t ≡ Some next) × (rebuild next t ≡ Some first)
            × (pivot_of o next t ≡ m.0 + 1)).
            let p = y.2 in omega (arith, least, far, p))
            (λ (y : (HasNewGroup first (m.0 + 1) t → ⊥) × (group_of o (m.0 + 1) t ≡ next)).
            ⊎_elim
            (λ (l : m.0 + 1 ≤ key).
            absurd (y.0 ((holds.behind key here).2 (m.0 + 1) (omega (arith, low, far)) l)))
            (λ (l : key < m.0 + 1).
            absurd (y.0 (holds.planned (m.0 + 1) (beyond m.0 (omega (arith, lt, end_is_key o j)) y.1 l))))
            (le_or_lt (m.0 + 1) key)) m.3
          where
            above : (j : ℕ) → pivot_of o first t ≤ j → j ≡ pivot_of o first t + (j - pivot_of o first t)
            above j le = omega (arith, le)

            -- a group behind the new ones does not begin at or before the key
            beyond : (i : ℕ) → i + 1 ≤ greatest_key → group_of o (i + 1) t ≡ next → key < i + 1 →
                phase (group_of o (i + 1) t) t ≡ Opened first
            beyond i lt e l =
                let w = chain_back o t next (i + 1) valid lt e in
                let same : group_of o key t ≡ next = w.1 key near (omega (arith, l)) in
                ap (λ (y : ℕ). phase y t) (e ∙ (sym same ∙ own)) ∙ at
