-- A rebuild of all keys with two new groups: one for the keys up to 4, and one for those behind.
use Rattle.std.proofs.Common.{◌≡◌, ◌≢◌, ℕ, ◌+◌, ◌<◌, ◌≤◌, ◌⊎◌, inl, inr, ⊎_elim, Option, Some}
use Rattle.std.proofs.Common.{None, Bool, true, false, refl, sym, ap, ◌∙◌, subst, arith, nat_lt}
use Rattle.std.proofs.lemmas.Bool.{ltb-false, ltb-true}
use Rattle.index_machine.proofs.Options.{none_some, not_so, some_is}
use Rattle.index_machine.proofs.Ranges.{in_range, range_in}
use Rattle.index_machine.specs.Execution.{Execution}
use Rattle.index_machine.specs.Groups.{phase, rebuild}
use Rattle.index_machine.specs.KeyRanges.{group_of, successor}
use Rattle.word_layout.specs.Parts.{greatest_key}
use Rattle.index_machine.specs.Openings.{within}
use Rattle.index_machine.specs.Permissions.{MayInsertInto}
use Rattle.index_machine.specs.RebuildConditions.{AreChained, HasNewGroup, IsBehindFirst}
use Rattle.index_machine.specs.RebuildConditions.{IsNextWord, MayOpen}
use Rattle.index_machine.specs.Sections.{IsCaller}
use Rattle.index_machine.specs.Words.{word}
use Rattle.word_layout.specs.Words.{Header}
use Rattle.word_layout.specs.declared.headers.HeaderWord.TheVariants as header
use Rattle.word_layout.specs.declared.phase.Phase.TheVariants.{Frozen, Open, Opened}
use Rattle.worked_executions.proofs.Equations.{Same}
use Rattle.std.proofs.Common.{◌/◌}
use Rattle.worked_executions.proofs.FourGroups.{o, at_key, is_high, is_low}

-- the new groups of the rebuild that the first of them names, by the ranges of a key
pub record ArePair (t : Execution) (low high : ℕ) (new : Bool → Bool → Option ℕ) : Type 0 where
  pub is : (k : ℕ) → successor k t ≡ new (within 0 k 4) (within 5 k greatest_key)
  pub of_keys :
      (new true false ≡ Some low) × (new false true ≡ Some high) × (new false false ≡ None)
  -- both are open; the one leads to the other, which leads to none
  pub first : (rebuild low t ≡ Some low) × (phase low t ≡ Open)
      × (word o t (Header low header.Pivot) ≡ 0) × (word o t (Header low header.Next) ≡ high + 1)
  pub second : (rebuild high t ≡ Some low) × (phase high t ≡ Open)
      × (word o t (Header high header.Pivot) ≡ 5) × (word o t (Header high header.Next) ≡ 0)
  -- the rebuild made no other, and they answer for no key
  pub only : (h : ℕ) → rebuild h t ≡ Some low → (low ≡ h) ⊎ (high ≡ h)
  pub unchained : (k : ℕ) → (group_of o k t ≢ low) × (group_of o k t ≢ high)

module _ (t : Execution) (low high : ℕ) (new : Bool → Bool → Option ℕ)
    (pair : ArePair t low high new) where
  new_low : (k : ℕ) → k ≤ 4 → successor k t ≡ Some low
  new_low k le = pair.is k ∙ at_key (λ a b w v. a ≡ true → new a b ≡ Some low)
      (λ e. pair.of_keys.0) (λ e. not_so e) (λ e. not_so e) k (is_low k le)

  new_high : (k : ℕ) → 4 < k → k ≤ greatest_key → successor k t ≡ Some high
  new_high k lt le = pair.is k ∙ at_key (λ a b w v. w ≡ true → a ≡ false → new a b ≡ Some high)
      (λ e f. not_so (sym f)) (λ e f. pair.of_keys.1) (λ e f. not_so e) k
      (range_in 0 greatest_key k (omega arith) le) (is_high k lt)

  new_key : (k h : ℕ) → successor k t ≡ Some h → k ≤ greatest_key
  new_key k h e = (in_range 0 greatest_key k (at_key (λ a b w v. new a b ≡ Some h → w ≡ true)
      (λ f. refl) (λ f. refl) (λ f. none_some (sym pair.of_keys.2 ∙ f)) k (sym (pair.is k) ∙ e))).1

  pub new_at : (k h : ℕ) → successor k t ≡ Some h →
      ((low ≡ h) × (k ≤ 4)) ⊎ ((high ≡ h) × (5 ≤ k))
  new_at k h e = go (nat_lt 4 k) refl
    where
      go : (w : Bool) → nat_lt 4 k ≡ w → ((low ≡ h) × (k ≤ 4)) ⊎ ((high ≡ h) × (5 ≤ k))
      go false f = let le : k ≤ 4 = ltb-false 4 k f in inl (some_is (sym (new_low k le) ∙ e), le)
      go true f = let lt : 4 < k = ltb-true 4 k f in
          inr (some_is (sym (new_high k lt (new_key k h e)) ∙ e), omega (arith, lt))

  pair_chained : AreChained o low t
  pair_chained k g h made too is next n = ⊎_elim
      (λ (x : (low ≡ g) × (k ≤ 4)). ⊎_elim
      (λ (y : (low ≡ h) × (k + 1 ≤ 4)). absurd (n (sym x.0 ∙ y.0)))
      (λ (y : (high ≡ h) × (5 ≤ k + 1)). let border : 5 ≡ k + 1 = omega (arith, x.1, y.1) in (
        ap (λ (i : ℕ). word o t (Header i header.Next)) (sym x.0)
            ∙ (pair.first.3 ∙ ap (λ (i : ℕ). i + 1) y.0),
        ap (λ (i : ℕ). word o t (Header i header.Pivot)) (sym y.0) ∙ (pair.second.2 ∙ border),
      ))
      (new_at (k + 1) h next))
      (λ (x : (high ≡ g) × (5 ≤ k)). ⊎_elim
      (λ (y : (low ≡ h) × (k + 1 ≤ 4)). absurd (omega (arith, x.1, y.1)))
      (λ (y : (high ≡ h) × (5 ≤ k + 1)). absurd (n (sym x.0 ∙ y.0)))
      (new_at (k + 1) h next))
      (new_at k g is)

  pair_planned : (k : ℕ) → k ≤ greatest_key → HasNewGroup low k t
  pair_planned k le = go (nat_lt 4 k) refl
    where
      go : (w : Bool) → nat_lt 4 k ≡ w → HasNewGroup low k t
      go false f = (low, new_low k (ltb-false 4 k f), pair.first.0)
      go true f = (high, new_high k (ltb-true 4 k f) le, pair.second.0)

  pair_behind : (k : ℕ) → k ≤ greatest_key → IsBehindFirst o low k t
  pair_behind k le = subst (λ (w : ℕ). (w ≤ k) × (successor w t ≡ Some low)
      × ((j : ℕ) → w ≤ j → j ≤ k → HasNewGroup low j t)) (sym pair.first.2) (
        omega arith,
        new_low 0 (omega arith),
        λ j a c. pair_planned j (omega (arith, le, c)),
      )

  pair_ends : (k h : ℕ) → successor k t ≡ Some h → rebuild h t ≡ Some low →
      (HasNewGroup low (k + 1) t → ⊥) → IsNextWord o t 0 k (word o t (Header h header.Next))
  pair_ends k h is made none = go (nat_lt k greatest_key) refl
    where
      go : (w : Bool) → nat_lt k greatest_key ≡ w →
          IsNextWord o t 0 k (word o t (Header h header.Next))
      go true e = let more : k < greatest_key = ltb-true k greatest_key e in
          absurd (none (pair_planned (k + 1) (omega (arith, more))))
      go false e = let top : greatest_key ≤ k = ltb-false k greatest_key e in
          let le = new_key k h is in
          ⊎_elim (λ (z : (low ≡ h) × (k ≤ 4)). absurd (omega (arith, top, z.1)))
          (λ (z : (high ≡ h) × (5 ≤ k)). inl (
            omega (arith, top, le),
            ap (λ (i : ℕ). word o t (Header i header.Next)) (sym z.0) ∙ pair.second.3,
          ))
          (new_at k h is)

  -- a frozen group is opened to the rebuild, where nothing else is opened
  pub pair_opens : (g : ℕ) → g < 4 → phase g t ≡ Frozen →
      ((c : ℕ) → IsCaller o c → MayInsertInto c g t → ⊥) → ((h f : ℕ) → phase h t ≢ Opened f) →
      ((k : ℕ) → group_of o k t ≡ g → k ≤ greatest_key) → MayOpen o t 1 g low
  pair_opens g exists frozen closed idle keys = record {
    keeper = ap (λ (p : ℕ). 1 + p) whole;
    frozen = frozen;
    closed = closed;
    named = pair.first.0;
    fresh = λ h e. ⊎_elim
        (λ (z : low ≡ h). subst (λ (y : ℕ). phase y t ≡ Open) z pair.first.1)
        (λ (z : high ≡ h). subst (λ (y : ℕ). phase y t ≡ Open) z pair.second.1) (pair.only h e);
    unchained = λ k h e at. ⊎_elim (λ (z : low ≡ h). (pair.unchained k).0 (at ∙ sym z))
        (λ (z : high ≡ h). (pair.unchained k).1 (at ∙ sym z)) (pair.only h e);
    planned = λ k e. pair_planned k (keys k e);
    behind = λ k e. pair_behind k (keys k e);
    chained = pair_chained;
    ends = λ k h is made none. subst
        (λ (p : ℕ). IsNextWord o t p k (word o t (Header h header.Next))) whole
        (pair_ends k h is made none);
    siblings = λ h e. absurd (idle h low e);
    only = λ h f is e. absurd (idle h f e);
    past = λ h f e from. absurd (idle h f e);
  }
    where
      whole : Same 0 (g / 4)
      whole = omega arith
