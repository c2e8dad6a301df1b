-- The new groups of a rebuild under way lead from key to key.
use Rattle.std.proofs.Common.{◌≡◌, ◌≢◌, ℕ, zero, suc, ◌+◌, ◌<◌, ◌≤◌, ◌⊎◌, inl, inr, ⊎_elim, Option}
use Rattle.std.proofs.Common.{Some, None}
use Rattle.std.proofs.Common.{refl, sym, ap, ◌∙◌, arith}
use mathlib.Core.Logic.{dite}
use native.Mathlib.Decide.{ℕ_discrete}
use Rattle.index_machine.proofs.OfParts.{rebuild_in_part, successor_exists, successor_in_part}
use Rattle.index_machine.specs.Keepers.{last_key, part_of}
use Rattle.index_machine.specs.Words.{shape}
use Rattle.word_layout.proofs.PartGroups.{group-part}
use Rattle.machine_chain.proofs.PartKeys.{next_key, part_of_key}
use Rattle.machine_chain.specs.Chain.{end_of}
use Rattle.index_machine.specs.Conditions.{Valid}
use Rattle.index_machine.specs.Execution.{Execution}
use Rattle.index_machine.specs.Groups.{rebuild}
use Rattle.index_machine.specs.KeyRanges.{group_of, successor}
use Rattle.index_machine.specs.RebuildConditions.{HasNewGroup}
use Rattle.index_machine.specs.declared.opening.Opening.{Opening}
use Rattle.machine_chain.proofs.Keys.{keys_have_groups}
use Rattle.machine_chain.proofs.UnderWay.{under_way_holds}
use Rattle.machine_chain.specs.Chain.{IsUnderWay, KeysHaveGroups, next_of, pivot_of}
use Rattle.index_machine.proofs.Options.{none_some, some_is}

pub keys_hold : (o : Opening) (t : Execution) → Valid o t → KeysHaveGroups o t
keys_hold o t valid = keys_have_groups o t valid
    (let many = o.layout.kept.least_groups in omega (arith, many))

-- the group that a new group leads to: the new one of the next key, or its group where it has none
abbrev pub NewNext : Opening → ℕ → ℕ → ℕ → Execution → Type 0
NewNext o f n i t =
    ((successor (i + 1) t ≡ Some n) × (rebuild n t ≡ Some f) × (pivot_of o n t ≡ i + 1))
    ⊎ ((HasNewGroup f (i + 1) t → ⊥) × (group_of o (i + 1) t ≡ n))

-- from a key of the new group on, the next key that has another one
abbrev pub NewScan : Opening → ℕ → ℕ → ℕ → Execution → Type 0
NewScan o f g j t =
    ((next_of o g t ≡ 0) × ((m : ℕ) → j ≤ m → m ≤ end_of o j → successor m t ≡ Some g))
    ⊎ ((n : ℕ) × (i : ℕ) × (j ≤ i) × (i < end_of o j) × (next_of o g t ≡ n + 1)
    × NewNext o f n i t × ((m : ℕ) → j ≤ m → m ≤ i → successor m t ≡ Some g))

new_or_not : (f k : ℕ) (t : Execution) → HasNewGroup f k t ⊎ (HasNewGroup f k t → ⊥)
new_or_not f k t = go (successor k t) refl
  where
    made : (h : ℕ) → successor k t ≡ Some h → (x : Option ℕ) → rebuild h t ≡ x →
        HasNewGroup f k t ⊎ (HasNewGroup f k t → ⊥)
    made h e None m = inr (λ z.
        let same : h ≡ z.0 = some_is (sym e ∙ z.1) in
        none_some (sym m ∙ (ap (λ (y : ℕ). rebuild y t) same ∙ z.2)))
    made h e (Some i) m = dite (ℕ_discrete i f)
        (λ (y : i ≡ f). inl (h, e, m ∙ ap Some y))
        (λ (n : i ≢ f). inr (λ z.
        let same : h ≡ z.0 = some_is (sym e ∙ z.1) in
        n (some_is (sym m ∙ (ap (λ (y : ℕ). rebuild y t) same ∙ z.2)))))

    go : (x : Option ℕ) → successor k t ≡ x → HasNewGroup f k t ⊎ (HasNewGroup f k t → ⊥)
    go None e = inr (λ z. none_some (sym e ∙ z.1))
    go (Some h) e = made h e (rebuild h t) refl

module _ (o : Opening) (t : Execution) (f g : ℕ) (valid : Valid o t) (under : IsUnderWay o f t)
    (from : rebuild g t ≡ Some f) where
  one_key : (j m : ℕ) → successor j t ≡ Some g → j ≤ m → m ≤ j → successor m t ≡ Some g
  one_key j m is a c =
      let e : j ≡ m = omega (arith, a, c) in ap (λ (y : ℕ). successor y t) (sym e) ∙ is

  -- the part of a key whose new group the rebuild made ends where the rebuild's does
  new_end : (j h : ℕ) → successor j t ≡ Some h → rebuild h t ≡ Some f →
      (end_of o j ≡ last_key o (part_of o f)) × (j ≤ last_key o (part_of o f))
  new_end j h is made =
      let part = rebuild_in_part o t valid h f made in
      let key = successor_in_part o t j h valid is in
      let ends = part_of_key o (part_of o h) j
      (group-part (shape o) h (successor_exists o t j h valid is)) key
      in
      let same : last_key o (part_of o h) ≡ last_key o (part_of o f) = ap (last_key o) (sym part) in
      let to = key.to in
      (ends.1 ∙ same, omega (arith, to, same))

  pub new_scan : (d j : ℕ) → j + d ≡ end_of o j → successor j t ≡ Some g → NewScan o f g j t
  new_scan zero j e is =
      let top : j ≡ end_of o j = omega (arith, e) in
      let ends = (new_end j g is from).0 in
      let none : HasNewGroup f (j + 1) t → ⊥ = λ z.
      let le = (new_end (j + 1) z.0 z.1 z.2).1 in absurd (omega (arith, le, top, ends)) in
      ⊎_elim
      (λ (z : (j ≡ last_key o (part_of o f)) × (next_of o g t ≡ 0)).
      inl (z.1, λ m a c. one_key j m is a (omega (arith, c, top))))
      (λ (z : (j < last_key o (part_of o f)) × (next_of o g t ≡ group_of o (j + 1) t + 1)).
      let lt = z.0 in absurd (omega (arith, lt, top, ends)))
      ((under_way_holds o t valid f under).ends j g is from none)
  new_scan (suc d) j e is =
      let lt : j < end_of o j = omega (arith, e) in
      let ends = (new_end j g is from).0 in
      let same_end : end_of o (j + 1) ≡ end_of o j = (next_key o j lt).1 in ⊎_elim
      (λ (z : HasNewGroup f (j + 1) t). dite (ℕ_discrete z.0 g)
      (λ (same : z.0 ≡ g). ⊎_elim
      (λ (y : (next_of o g t ≡ 0)
      × ((m : ℕ) → j + 1 ≤ m → m ≤ end_of o (j + 1) → successor m t ≡ Some g)).
      inl (y.0, λ m a c. more m (λ l. y.1 m l (omega (arith, c, same_end))) a))
      (λ (y : (n : ℕ) × (i : ℕ) × (j + 1 ≤ i) × (i < end_of o (j + 1)) × (next_of o g t ≡ n + 1)
      × NewNext o f n i t × ((m : ℕ) → j + 1 ≤ m → m ≤ i → successor m t ≡ Some g)).
      let le = y.2 in let below = y.3 in
      inr (
        y.0,
        y.1,
        omega (arith, le),
        omega (arith, below, same_end),
        y.4,
        y.5,
        λ m a c. more m (λ l. y.6 m l c) a,
      ))
      (new_scan d (j + 1) (omega (arith, e, same_end)) (z.1 ∙ ap Some same)))
      (λ (n : z.0 ≢ g).
      let c =
      (under_way_holds o t valid f under).chained j g z.0 from z.2 is z.1 (λ y. n (sym y)) in
      inr (z.0, j, omega arith, lt, c.0, inl (z.1, z.2, c.1), λ m a c. one_key j m is a c)))
      (λ (none : HasNewGroup f (j + 1) t → ⊥). ⊎_elim
      (λ (z : (j ≡ last_key o (part_of o f)) × (next_of o g t ≡ 0)).
      let top = z.0 in absurd (omega (arith, lt, top, ends)))
      (λ (z : (j < last_key o (part_of o f)) × (next_of o g t ≡ group_of o (j + 1) t + 1)).
      inr (
        group_of o (j + 1) t,
        j,
        omega arith,
        lt,
        z.1,
        inr (none, refl),
        λ m a c. one_key j m is a c,
      ))
      ((under_way_holds o t valid f under).ends j g is from none))
      (new_or_not f (j + 1) t)
    where
      more : (m : ℕ) → (j + 1 ≤ m → successor m t ≡ Some g) → j ≤ m → successor m t ≡ Some g
      more m then a = dite (ℕ_discrete j m)
          (λ (z : j ≡ m). ap (λ (y : ℕ). successor y t) (sym z) ∙ is)
          (λ (n : j ≢ m). then (omega (arith, a, n)))
