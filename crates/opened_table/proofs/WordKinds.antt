-- Words that are laid out kind by kind.
--
-- The fact to remember: each store is of the opening's word, so kinds are laid out one behind the other in any order.
use Rattle.std.proofs.Common.{◌≡◌, ◌≢◌, ◌⊎◌, inl, inr, ⊎_elim, ℕ, ◌+◌, ◌<◌, ◌≤◌, Bool, true, false, List, length}
use Rattle.std.proofs.Common.{slice_set, refl, sym, ◌∙◌, subst, arith, length-set}
use mathlib.Core.Logic.{dite}
use native.Mathlib.Decide.{ℕ_discrete}
use Rattle.word_layout.specs.Limits.{word_count}
use Rattle.word_layout.specs.Words.{Word, IsWord, address_of, same_word, word_named}
use Rattle.word_layout.proofs.SameWords.{same_word-refl, same_word-true}
use Rattle.word_layout.proofs.WordNames.{stores_by_name}
use Rattle.index_machine.specs.declared.opening.Opening.{Opening}
use Rattle.index_machine.specs.Words.{shape, opening_word}
use Rattle.opened_table.specs.Laying.{IsOfFirst, Lays}

-- two words are one, or not
one_or_not : (w v : Word) → (w ≡ v) ⊎ (w ≢ v)
one_or_not w v = go (same_word w v) refl
  where
    go : (b : Bool) → same_word w v ≡ b → (w ≡ v) ⊎ (w ≢ v)
    go true e = inl (same_word-true w v e)
    go false e = inr (λ same.
        let is : same_word w w ≡ false = subst (λ (z : Word). same_word w z ≡ false) (sym same) e in
        let not : true ≡ false = sym (same_word-refl w) ∙ is in cc)

-- nothing is laid out by no store
pub lays_none : (o : Opening) (Is : Word → Type 0) (words : List ℕ) → ((w : Word) → Is w → ⊥) → Lays o Is words words
lays_none o Is words none = record {
  wide = refl;
  laid = λ w is of. absurd (none w of);
  kept = λ w is not. refl;
}

-- one kind behind another, where no word is of both
pub lays_both : (o : Opening) (First Second : Word → Type 0) (old words new : List ℕ) →
    ((w : Word) → First w → Second w → ⊥) → Lays o First old words → Lays o Second words new →
    Lays o (λ w. First w ⊎ Second w) old new
lays_both o First Second old words new apart first second = record {
  wide = second.wide ∙ first.wide;
  laid = λ w is of. ⊎_elim
      (λ (one : First w). second.kept w is (λ two. apart w one two) ∙ first.laid w is one)
      (λ (two : Second w). second.laid w is two) of;
  kept = λ w is none. second.kept w is (λ two. none (inr two)) ∙ first.kept w is (λ one. none (inl one));
}

-- the store of one more word
pub lays_store : (o : Opening) (Is : Word → Type 0) (v : Word) (old words : List ℕ) →
    length old ≡ word_count (shape o) → IsWord (shape o) v → Lays o Is old words →
    Lays o (λ w. Is w ⊎ (w ≡ v)) old (slice_set words (address_of (shape o) v) (opening_word o v))
lays_store o Is v old words wide known done =
    let by_name = stores_by_name (shape o) in
    let stored = by_name.stored words v (opening_word o v) (done.wide ∙ wide) known in
    record {
      wide = length-set words (address_of (shape o) v) (opening_word o v) ∙ done.wide;
      laid = λ w is of. ⊎_elim
          (λ (same : w ≡ v).
          subst (λ (z : Word).
          word_named (shape o) (slice_set words (address_of (shape o) v) (opening_word o v)) z ≡ opening_word o z)
          (sym same) stored)
          (λ (other : w ≢ v).
          by_name.kept words v w (opening_word o v) known is (λ e. other (sym e))
          ∙ ⊎_elim (λ (one : Is w). done.laid w is one) (λ (e : w ≡ v). absurd (other e)) of)
          (one_or_not w v);
      kept = λ w is none.
          by_name.kept words v w (opening_word o v) known is (λ e. none (inr (sym e)))
          ∙ done.kept w is (λ one. none (inl one));
    }

-- the same words by another name
pub lays_as : (o : Opening) (Is As : Word → Type 0) (old new : List ℕ) → ((w : Word) → Is w → As w) →
    ((w : Word) → As w → Is w) → Lays o Is old new → Lays o As old new
lays_as o Is As old new to back done = record {
  wide = done.wide;
  laid = λ w is of. done.laid w is (back w of);
  kept = λ w is none. done.kept w is (λ one. none (to w one));
}

-- one more of numbered kinds, where no word is of two
pub lays_more : (o : Opening) (IsOf : ℕ → Word → Type 0) (many : ℕ) (old words new : List ℕ) →
    ((w : Word) (i : ℕ) → i < many → IsOf i w → IsOf many w → ⊥) → Lays o (IsOfFirst IsOf many) old words →
    Lays o (IsOf many) words new → Lays o (IsOfFirst IsOf (many + 1)) old new
lays_more o IsOf many old words new apart done more =
    lays_as o (λ w. IsOfFirst IsOf many w ⊎ IsOf many w) (IsOfFirst IsOf (many + 1)) old new to back
    (lays_both o (IsOfFirst IsOf many) (IsOf many) old words new (λ w one two. apart w one.0 one.1 one.2 two) done more)
  where
    to : (w : Word) → IsOfFirst IsOf many w ⊎ IsOf many w → IsOfFirst IsOf (many + 1) w
    to w of = ⊎_elim (λ (z : IsOfFirst IsOf many w). (z.0, (let lt = z.1 in omega arith), z.2))
        (λ (z : IsOf many w). (many, omega arith, z)) of

    back : (w : Word) → IsOfFirst IsOf (many + 1) w → IsOfFirst IsOf many w ⊎ IsOf many w
    back w of = dite (ℕ_discrete of.0 many)
        (λ (same : of.0 ≡ many). inr (subst (λ (n : ℕ). IsOf n w) same of.2))
        (λ (other : of.0 ≢ many). inl (of.0, (let lt = of.1 in omega arith), of.2))
