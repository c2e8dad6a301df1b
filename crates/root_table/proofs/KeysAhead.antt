-- Where the keys of a group end, by its next word at one moment: those for which it answers, or did, and those of
-- which it is the new group.
use Rattle.std.proofs.Common.{◌≡◌, ℕ, ◌+◌, ◌<◌, ◌≤◌, inl, inr, ⊎_elim, true, Some, sym, ap, ◌∙◌, subst, refl, arith}
use Rattle.word_layout.specs.declared.phase.Phase.TheVariants.{Opened}
use Rattle.word_layout.specs.Parts.{greatest_key, part_with}
use Rattle.word_layout.proofs.PartGroups.{part_with-has, part_with-within}
use Rattle.index_machine.specs.declared.opening.Opening.{Opening}
use Rattle.index_machine.specs.Conditions.{Valid}
use Rattle.index_machine.specs.Execution.{Execution}
use Rattle.index_machine.specs.Groups.{phase, rebuild}
use Rattle.index_machine.specs.KeyRanges.{group_of, predecessor, successor}
use Rattle.index_machine.specs.Keepers.{last_key, part_of}
use Rattle.index_machine.specs.Reaching.{stands_in}
use Rattle.index_machine.specs.RebuildConditions.{HasNewGroup}
use Rattle.index_machine.specs.Sections.{IsCaller}
use Rattle.index_machine.specs.Words.{shape}
use Rattle.index_machine.proofs.OfParts.{before_in_part, group_in_part, successor_of_part}
use Rattle.machine_chain.proofs.Cases.{le_or_lt}
use Rattle.machine_chain.proofs.Keys.{old_unchained}
use Rattle.machine_chain.proofs.NewWalks.{new_behind}
use Rattle.machine_chain.proofs.PartKeys.{end_is_key, key_lies}
use Rattle.machine_chain.proofs.Pivots.{chain_back}
use Rattle.machine_chain.proofs.Rising.{new_lead}
use Rattle.machine_chain.proofs.UnderWay.{under_way_holds}
use Rattle.machine_chain.proofs.Walking.{lead_on}
use Rattle.machine_chain.specs.Chain.{end_of, next_of, pivot_of}
use Rattle.machine_chain.specs.Walks.{AnswersFor, AnswersForNew, BeginsBeforeNew, NewLeadsOn}

-- ---- parts ----

-- the group of a key is of the key's part
group_part : (o : Opening) (t : Execution) (key group : ℕ) → Valid o t → key ≤ greatest_key →
    group_of o key t ≡ group → end_of o key ≡ last_key o (part_of o group)
group_part o t key group valid most own =
    ap (last_key o) (sym (group_in_part o t (part_with (shape o).bounds key) key valid
    (part_with-within (shape o).bounds key) (part_with-has (shape o).bounds key o.layout.cut most)))
    ∙ ap (λ (g : ℕ). last_key o (part_of o g)) own

-- ---- keys for which it answers, or did ----

module _ (o : Opening) (t : Execution) (valid : Valid o t) (c group key : ℕ) (is : IsCaller o c)
    (most : key ≤ greatest_key) (there : stands_in c group t ≡ true) (answers : AnswersFor o key group t) where
  pub part_answers : end_of o key ≡ last_key o (part_of o group)
  part_answers =
      ⊎_elim (λ (z : group_of o key t ≡ group). group_part o t key group valid most z)
      (λ (z : predecessor o key t ≡ Some group).
      ap (last_key o) (sym (before_in_part o t valid key group z).1)) answers

  pub last_keys : next_of o group t ≡ 0 → (m : ℕ) → key ≤ m → m ≤ end_of o key → AnswersFor o m group t
  last_keys none m from to = (lead_on o t valid c group key is there most answers).end none m from to

  pub next_keys : (n : ℕ) → next_of o group t ≡ n + 1 →
      (key < pivot_of o n t) × (pivot_of o n t ≤ end_of o key) × AnswersFor o (pivot_of o n t) n t
      × ((m : ℕ) → key ≤ m → m < pivot_of o n t → AnswersFor o m group t)
  next_keys n names =
      let l = (lead_on o t valid c group key is there most answers).next n names in
      let from = l.1 in
      let lt = l.2 in
      let pivot = l.3 in (
        omega (arith, from, pivot),
        omega (arith, lt, pivot),
        subst (λ (m : ℕ). AnswersFor o m n t) (sym pivot) l.4,
        λ m low high. l.5 m low (omega (arith, high, pivot)),
      )

-- ---- keys of which it is the new group ----

module _ (o : Opening) (t : Execution) (valid : Valid o t) (c old first group key : ℕ) (is : IsCaller o c)
    (most : key ≤ greatest_key) (stands : stands_in c old t ≡ true) (at : phase old t ≡ Opened first)
    (there : stands_in c group t ≡ true) (answers : AnswersForNew o old key group t) where
  -- whoever has a key in the old group has it in this new one
  abbrev pub IsNewFor : ℕ → Type 0
  IsNewFor m = AnswersFor o m old t → AnswersForNew o old m group t

  answers_old : AnswersFor o key old t
  answers_old =
      ⊎_elim (λ (z : (group_of o key t ≡ old) × (successor key t ≡ Some group)). inl z.0)
      (λ (z : (predecessor o key t ≡ Some old) × (group_of o key t ≡ group)). inr z.0) answers

  pub begins_there : BeginsBeforeNew o old first key group t
  begins_there =
      ⊎_elim
      (λ (z : (group_of o key t ≡ old) × (successor key t ≡ Some group)).
      inl (
        key,
        z.0,
        first_below z.0,
        omega arith,
        z.1,
        (new_behind o t valid c old first key group is stands at answers).1,
      ))
      (λ (z : (predecessor o key t ≡ Some old) × (group_of o key t ≡ group)).
      inr (key, z.0, omega arith, z.1, (key_lies o key most).0)) answers
    where
      first_below : group_of o key t ≡ old → pivot_of o first t ≤ key
      first_below own =
          let here : phase (group_of o key t) t ≡ Opened first = ap (λ (y : ℕ). phase y t) own ∙ at in
          ((under_way_holds o t valid first (key, here)).behind key here).0

  pub part_new : end_of o key ≡ last_key o (part_of o group)
  part_new =
      ⊎_elim
      (λ (z : (group_of o key t ≡ old) × (successor key t ≡ Some group)).
      group_part o t key (group_of o key t) valid most refl
      ∙ ap (last_key o) (sym (successor_of_part o t key group valid z.1)))
      (λ (z : (predecessor o key t ≡ Some old) × (group_of o key t ≡ group)).
      group_part o t key group valid most z.1) answers

  -- before the install: the old group has not had the key of another one
  new_before : (m : ℕ) → group_of o key t ≡ old → successor m t ≡ Some group → IsNewFor m
  new_before m own new has =
      ⊎_elim (λ (z : group_of o m t ≡ old). inl (z, new))
      (λ (z : predecessor o m t ≡ Some old). absurd (old_unchained o t valid m old key z own)) has

  -- after it
  new_after : (m : ℕ) → predecessor o key t ≡ Some old → group_of o key t ≡ group →
      AnswersFor o m group t → IsNewFor m
  new_after m was own here has =
      ⊎_elim
      (λ (z : group_of o m t ≡ old). absurd (old_unchained o t valid key old m was z))
      (λ (z : predecessor o m t ≡ Some old).
      ⊎_elim (λ (y : group_of o m t ≡ group). inr (z, y))
      (λ (y : predecessor o m t ≡ Some group). absurd (old_unchained o t valid m group key y own)) here) has

  module _ (own : group_of o key t ≡ old) (new : successor key t ≡ Some group) where
    opened_here : phase (group_of o key t) t ≡ Opened first
    opened_here = ap (λ (y : ℕ). phase y t) own ∙ at

    lead_here : NewLeadsOn o first group key t
    lead_here =
        new_lead o t valid first group key (key, opened_here)
        (new_behind o t valid c old first key group is stands at (inl (own, new))).1 new

    -- the group behind the new ones begins behind the key
    behind_new : (i n : ℕ) → i < end_of o key → group_of o (i + 1) t ≡ n →
        (HasNewGroup first (i + 1) t → ⊥) → key ≤ i →
        (key < pivot_of o n t) × (pivot_of o n t ≤ i + 1)
    behind_new i n lt e none from =
        let back = chain_back o t n (i + 1) valid (omega (arith, lt, end_is_key o key)) e in (
          ⊎_elim
              (λ (l : pivot_of o n t ≤ key).
              let same : group_of o key t ≡ n = back.1 key l (omega (arith, from)) in
              absurd (none ((under_way_holds o t valid first (key, opened_here)).planned (i + 1)
              (ap (λ (y : ℕ). phase y t) (e ∙ (sym same ∙ own)) ∙ at))))
              (λ (l : key < pivot_of o n t). l)
              (le_or_lt (pivot_of o n t) key),
          back.0,
        )

    next_before : (n : ℕ) → next_of o group t ≡ n + 1 →
        (key < pivot_of o n t) × (pivot_of o n t ≤ end_of o key)
        × ((m : ℕ) → key ≤ m → m < pivot_of o n t → IsNewFor m)
    next_before n names =
        let l = lead_here.next n names in
        let from = l.1 in
        let lt = l.2 in
        let pivots : (key < pivot_of o n t) × (pivot_of o n t ≤ l.0 + 1) =
        ⊎_elim
        (λ (y : (successor (l.0 + 1) t ≡ Some n) × (rebuild n t ≡ Some first)
        × (pivot_of o n t ≡ l.0 + 1)).
        let pivot = y.2 in (omega (arith, from, pivot), omega (arith, pivot)))
        (λ (y : (HasNewGroup first (l.0 + 1) t → ⊥) × (group_of o (l.0 + 1) t ≡ n)).
        behind_new l.0 n lt y.1 y.0 from) l.3 in
        let low = pivots.0 in
        let high = pivots.1 in (
          low,
          omega (arith, high, lt),
          λ m above below. new_before m own (l.4 m above (omega (arith, below, high))),
        )

  pub last_new : next_of o group t ≡ 0 → (m : ℕ) → key ≤ m → m ≤ end_of o key → IsNewFor m
  last_new none m from to =
      ⊎_elim
      (λ (z : (group_of o key t ≡ old) × (successor key t ≡ Some group)).
      new_before m z.0 ((lead_here z.0 z.1).end none m from to))
      (λ (z : (predecessor o key t ≡ Some old) × (group_of o key t ≡ group)).
      new_after m z.0 z.1 (last_keys o t valid c group key is most there (inl z.1) none m from to)) answers

  pub next_new : (n : ℕ) → next_of o group t ≡ n + 1 →
      (key < pivot_of o n t) × (pivot_of o n t ≤ end_of o key)
      × ((m : ℕ) → key ≤ m → m < pivot_of o n t → IsNewFor m)
  next_new n names =
      ⊎_elim
      (λ (z : (group_of o key t ≡ old) × (successor key t ≡ Some group)). next_before z.0 z.1 n names)
      (λ (z : (predecessor o key t ≡ Some old) × (group_of o key t ≡ group)).
      let l = next_keys o t valid c group key is most there (inl z.1) n names in
      (l.0, l.1, λ m from to. new_after m z.0 z.1 (l.3 m from to))) answers
