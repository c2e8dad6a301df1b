-- No rebuild is under way from an install to the next group that is opened.
use Rattle.std.proofs.Common.{◌≢◌, ◌≡◌, ℕ, ◌+◌, ◌<◌, ◌≤◌, inl, inr, ⊎_elim, [], ◌∷◌, ◌++◌}
use Rattle.std.proofs.Common.{refl, sym, ap, ◌∙◌, arith}
use Rattle.index_machine.proofs.Executions.{choice-other}
use Rattle.index_machine.proofs.OfParts.{group_exists, group_in_part, key_in_part, opened_in_part, outside_install}
use Rattle.index_machine.proofs.OfParts.{spot_is_part}
use Rattle.index_machine.specs.Keepers.{IsKeyIn, IsPart, IsPartKeeper, last_key, part_of}
use Rattle.index_machine.specs.RebuildConditions.{part_of_spot}
use Rattle.index_machine.specs.Words.{limits, shape}
use Rattle.word_layout.proofs.PartGroups.{group-part}
use Rattle.machine_buffers.proofs.OutOfUse.{group_out}
use Rattle.machine_chain.proofs.PartKeys.{key_lies, part_of_key}
use Rattle.machine_chain.specs.Chain.{end_of}
use Rattle.word_layout.specs.declared.phase.Phase.TheVariants.{Opened}
use mathlib.Core.Logic.{dite}
use native.Mathlib.Decide.{ℕ_discrete}
use Rattle.index_machine.proofs.Executions.{valid_before}
use Rattle.index_machine.specs.Conditions.{Valid}
use Rattle.index_machine.specs.Execution.{Execution, event}
use Rattle.index_machine.specs.Groups.{phase}
use Rattle.index_machine.specs.KeyRanges.{group_of}
use Rattle.index_machine.specs.declared.events.Action.{Action}
use Rattle.index_machine.specs.declared.events.Action.TheVariants.{Freeze, Install, NewGroup}
use Rattle.index_machine.specs.declared.events.Action.TheVariants.{StoreOpened, Thaw}
use Rattle.index_machine.specs.declared.opening.Opening.{Opening}
use Rattle.machine_barriers.proofs.OpenedGroups.{begun_back, frozen_not, open_not, opened_back}
use Rattle.machine_chain.proofs.Answers.{chain_scan}
use Rattle.machine_chain.proofs.Chained.{groups_chained}
use Rattle.machine_chain.proofs.Cases.{le_or_lt}
use Rattle.machine_chain.proofs.UnderWay.{none_after, under_way_holds}
use Rattle.machine_chain.specs.Chain.{next_of, pivot_of}
use Rattle.machine_chain.specs.Keepers.{InstallsEndRebuilds, IsIdle, LastKeysHaveNextWords}
use Rattle.machine_chain.specs.Keepers.{NextWordsOfTheChain}
use Rattle.machine_chain.specs.Keepers.{KeeperOpensNone, NoRebuildIsUnderWayAtFirst, OpensNoGroup}
use Rattle.word_layout.specs.declared.phase.Phase.TheVariants.{Frozen, Open}

-- a key of the part has a group of the part, so what this is opened to is a rebuild of the part
named_part : (o : Opening) (t : Execution) (part k f : ℕ) → Valid o t → IsPart o part →
    IsKeyIn o part k → phase (group_of o k t) t ≡ Opened f → part_of o f ≡ part
named_part o t part k f valid is_part key e =
    opened_in_part o t valid (group_of o k t) f e ∙ group_in_part o t part k valid is_part key

idle_step : (o : Opening) (t : Execution) (b : ℕ) (d : Action) (part : ℕ) → Valid o (event b d ∷ t) →
    IsPart o part → (IsPartKeeper o b part → OpensNoGroup d) → IsIdle o part t →
    IsIdle o part (event b d ∷ t)
idle_step o t b (Install spot lead low high) part valid is_part none idle k f key e =
    dite (ℕ_discrete part (part_of_spot o spot))
    (λ (same : part ≡ part_of_spot o spot).
    none_after o t b spot lead low high f valid
    (named_part o (event b (Install spot lead low high) ∷ t) part k f valid is_part key e ∙ same)
    (under_way_holds o t valid.1) (k, e))
    (λ (apart : part ≢ part_of_spot o spot).
    let out =
    outside_install o t b spot lead low high part k valid.2 valid.0 is_part key apart
    in
    idle k f key
    (ap (λ (y : ℕ). phase y t) (sym (group_out o t b spot lead low high k out)) ∙ e))
idle_step o t b (StoreOpened h i) part valid is_part none idle k f key e =
    dite (ℕ_discrete h (group_of o k t))
    (λ (z : h ≡ group_of o k t).
    let part_is = group_in_part o t part k valid.1 is_part key in
    let keeper = valid.0.keeper in
    none (keeper ∙ ap (λ (p : ℕ). (limits o).callers + p) (ap (part_of o) z ∙ part_is)))
    (λ (n : h ≢ group_of o k t).
    idle k f key (sym (choice-other h (group_of o k t) (Opened i) (phase (group_of o k t) t) n) ∙ e))
idle_step o t b (Freeze h) part valid is_part none idle k f key e =
    idle k f key (opened_back h (group_of o k t) Frozen (phase (group_of o k t) t) f frozen_not e).1
idle_step o t b (Thaw h) part valid is_part none idle k f key e =
    idle k f key (opened_back h (group_of o k t) Open (phase (group_of o k t) t) f open_not e).1
idle_step o t b (NewGroup h low high i) part valid is_part none idle k f key e =
    idle k f key (begun_back h (group_of o k t) (phase (group_of o k t) t) f e).2
idle_step o t b d part valid is_part none idle k f key e = idle k f key e

idle_on : (o : Opening) (part : ℕ) (newer t : Execution) → IsPart o part → Valid o (newer ++ t) →
    KeeperOpensNone o part newer → IsIdle o part t → IsIdle o part (newer ++ t)
idle_on o part [] t is_part valid none idle = idle
idle_on o part (e ∷ newer) t is_part valid none idle =
    idle_step o (newer ++ t) e.by e.action part valid is_part none.0
    (idle_on o part newer t is_part valid.1 none.1 idle)

pub installs_end : InstallsEndRebuilds
installs_end o b spot lead low high newer t valid none =
    let T : Execution = event b (Install spot lead low high) ∷ t in
    let v = valid_before o newer T valid in
    let is_part = spot_is_part o t b spot lead low high v.2 v.0 in
    idle_on o (part_of_spot o spot) newer T is_part valid none
    (λ k f key e. none_after o t b spot lead low high f v
    (named_part o T (part_of_spot o spot) k f v is_part key e) (under_way_holds o t v.1) (k, e))

pub at_first : NoRebuildIsUnderWayAtFirst
at_first o part [] is_part valid none = λ k f key e. open_not e
at_first o part (e ∷ t) is_part valid none =
    idle_step o t e.by e.action part valid is_part none.0 (at_first o part t is_part valid.1 none.1)

pub chain_next_words : NextWordsOfTheChain
chain_next_words o t valid g k le is = record {
  end = λ e. ⊎_elim
      (λ (z : (next_of o g t ≡ 0) × ((m : ℕ) → k ≤ m → m ≤ end_of o k → group_of o m t ≡ g)). z.1)
      (λ (z : (i : ℕ) × (k ≤ i) × (i < end_of o k) × (next_of o g t ≡ group_of o (i + 1) t + 1)
      × (pivot_of o (group_of o (i + 1) t) t ≡ i + 1)
      × ((m : ℕ) → k ≤ m → m ≤ i → group_of o m t ≡ g)).
      let bad : 0 ≡ group_of o (z.0 + 1) t + 1 = sym e ∙ z.3 in absurd (omega (arith, bad)))
      (chain_scan o t g k valid le is);
  next = λ n e. ⊎_elim
      (λ (z : (next_of o g t ≡ 0) × ((m : ℕ) → k ≤ m → m ≤ end_of o k → group_of o m t ≡ g)).
      let bad : 0 ≡ n + 1 = sym z.0 ∙ e in absurd (omega (arith, bad)))
      (λ (z : (i : ℕ) × (k ≤ i) × (i < end_of o k) × (next_of o g t ≡ group_of o (i + 1) t + 1)
      × (pivot_of o (group_of o (i + 1) t) t ≡ i + 1)
      × ((m : ℕ) → k ≤ m → m ≤ i → group_of o m t ≡ g)).
      let both : group_of o (z.0 + 1) t + 1 ≡ n + 1 = sym z.3 ∙ e in
      let same : group_of o (z.0 + 1) t ≡ n = omega (arith, both) in
      (z.0, z.1, z.2, ap (λ (y : ℕ). pivot_of o y t) (sym same) ∙ z.4, same, z.5))
      (chain_scan o t g k valid le is);
}

pub last_keys : LastKeysHaveNextWords
last_keys o t valid g k le is last =
    let exists = group_exists o t k valid le in
    let key = key_in_part o t k valid exists in
    let ends = (part_of_key o (part_of o (group_of o k t)) k
    (group-part (shape o) (group_of o k t) exists) key).1
    in
    let same : last_key o (part_of o (group_of o k t)) ≡ last_key o (part_of o g) =
    ap (λ (y : ℕ). last_key o (part_of o y)) is
    in
    let lies = key_lies o k le in
    ⊎_elim
    (λ (z : end_of o k ≤ k).
    let top : k ≡ end_of o k = omega (arith, lies.1, z) in
    inl (top ∙ (ends ∙ same), (groups_chained o t valid).last k g top is))
    (λ (z : k < end_of o k).
    let m = (groups_chained o t valid).next k g (group_of o (k + 1) t) z is refl
    (λ y. last z (sym y)) in
    inr (omega (arith, z, ends, same), m.0))
    (le_or_lt (end_of o k) k)
