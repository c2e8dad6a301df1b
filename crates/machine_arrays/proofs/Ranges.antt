-- Each key of an array is one of its group's, until the group is out of use.
use Rattle.std.proofs.Common.{◌≡◌, ℕ, ◌⊎◌, inl, inr, ⊎_elim, Some, true, [], ◌∷◌, sym, ap, ◌∙◌}
use Rattle.std.proofs.Common.{subst, arith}
use Rattle.machine_arrays.proofs.Opened.{opened_owned}
use Rattle.index_machine.specs.Conditions.{Allowed, Valid}
use Rattle.index_machine.specs.Execution.{Execution, event}
use Rattle.index_machine.specs.Groups.{phase}
use Rattle.index_machine.specs.KeyRanges.{group_of, predecessor, successor}
use Rattle.index_machine.specs.Permissions.{IsBufferFor}
use Rattle.index_machine.specs.Reaching.{stands_in}
use Rattle.index_machine.specs.Rows.{InArray, role}
use Rattle.index_machine.specs.Sections.{IsCaller}
use Rattle.index_machine.specs.declared.events.Action.{Action}
use Rattle.index_machine.specs.declared.events.Action.TheVariants.{Install, NewGroup, StoreRedirect}
use Rattle.index_machine.specs.declared.opening.Opening.{Opening}
use Rattle.machine_arrays.proofs.Places.{are_keys, not_begun}
use Rattle.machine_arrays.specs.Ranges.{ArraysHaveKeysOfTheirGroup, ArraysOfTheChainAreInRange}
use Rattle.machine_arrays.specs.Ranges.{KeysOfArraysAreInRange}
use Rattle.machine_barriers.proofs.OpenedGroups.{open_not}
use Rattle.machine_barriers.proofs.Reaches.{may_as}
use Rattle.machine_buffers.proofs.OutOfUse.{new_groups_await, out_on}
use Rattle.machine_buffers.proofs.Ranges.{kept_install, kept_new}
use Rattle.machine_buffers.specs.Groups.{Begins, IsKeyOf, IsOutOfUse}
use Rattle.machine_chain.proofs.Answers.{answers_lead}
use Rattle.machine_chain.proofs.Idle.{chain_next_words}
use Rattle.machine_chain.proofs.Keys.{old_unchained}
use Rattle.machine_chain.proofs.Pivots.{chain_back_law, start_at_pivot}
use Rattle.machine_chain.specs.Walks.{AnswersFor}
use Rattle.machine_readers.proofs.AwaitedGroups.{belongs_on}
use Rattle.machine_readers.proofs.Roles.{array_back}
use Rattle.machine_readers.proofs.StandingCallers.{groups_before_are_opened}
use Rattle.word_layout.specs.declared.phase.Phase.TheVariants.{Opened}

-- ---- keys of the group ----

-- a key of a group that is not begun stays one of its keys, or the group gets out of use
of_group_step : (o : Opening) (t : Execution) (b : ℕ) (d : Action) (g k : ℕ) → Valid o t →
    Allowed o t b d → (Begins g d → ⊥) → IsKeyOf o g k t →
    IsKeyOf o g k (event b d ∷ t) ⊎ IsOutOfUse o g (event b d ∷ t)
of_group_step o t b (Install spot lead low high) g k valid may never of =
    kept_install o t b spot lead low high g k valid may of
of_group_step o t b (NewGroup h low high f) g k valid may never of =
    kept_new o t b h low high f g k valid may
    (λ z. never (low, high, f, ap (λ (y : ℕ). NewGroup y low high f) (sym z))) of
of_group_step o t b d g k valid may never of = ⊎_elim
    (λ (x : IsBufferFor o k g t). ⊎_elim
    (λ (y : group_of o k t ≡ g). inl (inl (inl y)))
    (λ (y : (f : ℕ) × (phase (group_of o k t) t ≡ Opened f) × (successor k t ≡ Some g)).
    inl (inl (belongs_on o t b d g k may y.2 y.2 x))) x)
    (λ (x : predecessor o k t ≡ Some g). inl (inr x)) of

-- so is one that is put into the array
of_group_new : (o : Opening) (t : Execution) (b : ℕ) (d : Action) (g k p to : ℕ) → Allowed o t b d →
    d ≡ StoreRedirect g p k to → IsKeyOf o g k (event b d ∷ t)
of_group_new o t b d g k p to may is =
    let m = may_as o t b d (StoreRedirect g p k to) is may in
    subst (λ (y : Action). IsKeyOf o g k (event b y ∷ t)) (sym is)
    (inl (inr (m.opened.0, m.opened.1, m.belongs)))

pub of_group : ArraysHaveKeysOfTheirGroup
of_group o [] valid g k p e = inl (inl (inl (opened_owned o g k p e)))
of_group o (x ∷ t) valid g k p e = ⊎_elim
    (λ (z : role o p t ≡ InArray g k).
    let never : Begins g x.action → ⊥ = not_begun o t x.by x.action g k p z e in
    ⊎_elim
    (λ (of : IsKeyOf o g k t). of_group_step o t x.by x.action g k valid.1 valid.0 never of)
    (λ (out : IsOutOfUse o g t). inr (out_on o t x.by x.action g valid.1 valid.0 out never))
    (of_group o t valid.1 g k p z))
    (λ (z : (to : ℕ) × (x.action ≡ StoreRedirect g p k to)).
    inl (of_group_new o t x.by x.action g k p z.0 valid.0 z.1))
    (array_back o t x.by x.action p g k e)

-- ---- groups that answer for a key, or did ----

-- each key of a group of the chain is in its key range
owned : (o : Opening) (t : Execution) (g j k : ℕ) → Valid o t → group_of o j t ≡ g →
    IsKeyOf o g k t ⊎ IsOutOfUse o g t → group_of o k t ≡ g
owned o t g j k valid own of = ⊎_elim
    (λ (z : IsKeyOf o g k t). ⊎_elim
    (λ (x : IsBufferFor o k g t). ⊎_elim
    (λ (y : group_of o k t ≡ g). y)
    (λ (y : (f : ℕ) × (phase (group_of o k t) t ≡ Opened f) × (successor k t ≡ Some g)).
    ⊎_elim (λ (u : group_of o k t ≡ g). u)
    (λ u. absurd (u.0 j own))
    (new_groups_await o t valid k g y.2)) x)
    (λ (x : predecessor o k t ≡ Some g). absurd (old_unchained o t valid k g j x own)) z)
    (λ (z : IsOutOfUse o g t). absurd (z.unowned j own)) of

-- so is one of an old group, where a caller stands
stood : (o : Opening) (t : Execution) (c g j k : ℕ) → Valid o t → IsCaller o c →
    stands_in c g t ≡ true → predecessor o j t ≡ Some g →
    IsKeyOf o g k t ⊎ IsOutOfUse o g t → AnswersFor o k g t
stood o t c g j k valid is s was of =
    let p = groups_before_are_opened o t valid j g was in ⊎_elim
    (λ (z : IsKeyOf o g k t). ⊎_elim
    (λ (x : IsBufferFor o k g t). ⊎_elim
    (λ (y : group_of o k t ≡ g). inl y)
    (λ (y : (f : ℕ) × (phase (group_of o k t) t ≡ Opened f) × (successor k t ≡ Some g)).
    ⊎_elim (λ (u : group_of o k t ≡ g). inl u)
    (λ u. open_not (sym u.1 ∙ p.1))
    (new_groups_await o t valid k g y.2)) x)
    (λ (x : predecessor o k t ≡ Some g). inr x) z)
    (λ (z : IsOutOfUse o g t). absurd ((z.settled p.0 p.1 g p.1).empty c is s)) of

pub chain_range : ArraysOfTheChainAreInRange
chain_range o t valid g j k p own e =
    let key = (are_keys o t valid g k p e).1 in
    let here = owned o t g j k valid own (of_group o t valid g k p e) in (
      here,
      record {
        from = (chain_back_law o t valid g k key here).0;
        below = λ n next.
            let w = (chain_next_words o t valid g k key here).next n next in
            let le = w.1 in
            let is = w.3 in
            omega (arith, le, is);
      },
    )

pub caller_range : KeysOfArraysAreInRange
caller_range o t valid c g j k p is s a e =
    let key = (are_keys o t valid g k p e).1 in
    let here : AnswersFor o k g t = ⊎_elim
    (λ (z : group_of o j t ≡ g). inl (owned o t g j k valid z (of_group o t valid g k p e)))
    (λ (z : predecessor o j t ≡ Some g).
    stood o t c g j k valid is s z (of_group o t valid g k p e)) a in (
      here,
      record {
        from = (start_at_pivot o t c g k valid is s key here).low;
        below = λ n next.
            let w = (answers_lead o t c g k valid is s key here).next n next in
            let le = w.1 in
            let at = w.3 in
            omega (arith, le, at);
      },
    )
