-- What a keeper may store in a new array, it may still store later.
use Rattle.std.proofs.Common.{◌≡◌, ◌≢◌, ℕ, ◌++◌, ◌+◌, refl, sym, ap, ◌∙◌, subst}
use Rattle.word_layout.specs.Addresses.{array_address}
use Rattle.word_layout.specs.Words.{PlaceWord}
use Rattle.word_layout.specs.declared.places.Part.{Part}
use Rattle.word_layout.specs.declared.places.Part.TheVariants as part
use Rattle.word_layout.specs.declared.phase.Phase.TheVariants.{Open, Opened}
use Rattle.index_machine.proofs.OfParts.{successor_of_part}
use Rattle.index_machine.specs.Execution.{Execution}
use Rattle.index_machine.specs.Forms.{Redirect}
use Rattle.index_machine.specs.Groups.{phase}
use Rattle.index_machine.specs.Keepers.{IsArrayPlaceOf, IsGroupKeeper, part_of}
use Rattle.index_machine.specs.KeyRanges.{group_of}
use Rattle.index_machine.specs.Places.{IsInGroup, form}
use Rattle.index_machine.specs.Rows.{InArray, Unused, role}
use Rattle.index_machine.specs.Words.{limits, shape, word}
use Rattle.index_machine.specs.declared.opening.Opening.{Opening}
use Rattle.machine_keeper.proofs.OtherForms.{no_redirect, unused_words}
use Rattle.machine_keeper.proofs.OtherPlaces.{array_on, array_was, over, place_on, unused_on}
use Rattle.machine_keeper.proofs.Others.{AreOthers, before, group_on, new_on, phase_on, unowned_on}
use Rattle.machine_keeper.specs.Staying.{MayFillArrayStays, MayRedirectStays}

-- an array place of the part that is nobody's, with its words
abbrev IsUnusedWith : Opening → ℕ → ℕ → Part → Execution → Type 0
IsUnusedWith o p value which t = (role o p t ≡ Unused) × (word o t (PlaceWord p which) ≡ value)

module _ {o : Opening} {hand g : ℕ} {newer t : Execution} (x : AreOthers o hand (part_of o g) newer t)
  where
    pub unused_over : (p : ℕ) → IsArrayPlaceOf o g p → role o p t ≡ Unused →
        role o p (newer ++ t) ≡ Unused
    unused_over p at is =
        over o hand (λ s. role o p s ≡ Unused) (λ b d s y z. unused_on y g p x.keeper at z) newer t
        x.valid x.without is

    pub words_over : (p : ℕ) (which : Part) → IsArrayPlaceOf o g p → role o p t ≡ Unused →
        word o (newer ++ t) (PlaceWord p which) ≡ word o t (PlaceWord p which)
    words_over p which at is =
        (over o hand (IsUnusedWith o p (word o t (PlaceWord p which)) which)
        (λ b d s y z. (
          unused_on y g p x.keeper at z.0,
          unused_words y g p x.keeper at z.0 which ∙ z.1,
        )) newer t x.valid x.without (is, refl)).1

    pub array_over : (k p : ℕ) → role o p t ≡ InArray g k → role o p (newer ++ t) ≡ InArray g k
    array_over k p is =
        over o hand (λ s. role o p s ≡ InArray g k) (λ b d s y z. array_on y g k p x.keeper z) newer t
        x.valid x.without is

    pub place_over : (k p : ℕ) → IsInGroup o t g k p → IsInGroup o (newer ++ t) g k p
    place_over k p is =
        over o hand (λ s. IsInGroup o s g k p) (λ b d s y z. place_on y g k p x.keeper z) newer t
        x.valid x.without is

    pub no_array_over : (k p : ℕ) → role o p t ≢ InArray g k → role o p (newer ++ t) ≢ InArray g k
    no_array_over k p none =
        over o hand (λ s. role o p s ≢ InArray g k) (λ b d s y z e. z (array_was y g k p x.keeper e))
        newer t x.valid x.without none

pub may_fill_array : MayFillArrayStays
may_fill_array o hand g p newer t is_hand valid without may =
    let x : AreOthers o hand (part_of o g) newer t =
    record { is_hand = is_hand; keeper = may.keeper; valid = valid; without = without }
    in
    record {
      keeper = may.keeper;
      in_array = may.in_array;
      unused = unused_over x p may.in_array may.unused;
      unowned = unowned_on x g refl may.unowned;
    }

pub may_redirect : MayRedirectStays
may_redirect o hand g a k p newer t is_hand valid without may =
    let x : AreOthers o hand (part_of o g) newer t =
    record { is_hand = is_hand; keeper = may.keeper; valid = valid; without = without }
    in
    let owner : ℕ = group_of o k t in
    let parts : part_of o g ≡ part_of o owner = successor_of_part o t k g (before x) may.belongs in
    let kept : IsGroupKeeper o hand owner =
    may.keeper ∙ ap (λ (i : ℕ). (limits o).callers + i) parts
    in
    let same : group_of o k (newer ++ t) ≡ owner = group_on x k owner (sym parts) refl in
    let source = over o hand
    (λ s. IsInGroup o s owner k p × ((q y : ℕ) → form o p s ≢ Redirect q y))
    (λ b d s y z. (place_on y owner k p kept z.0, no_redirect y owner k p kept z.0 z.1))
    newer t valid without (may.source, may.direct)
    in
    record {
      keeper = may.keeper;
      in_array = may.in_array;
      unused = unused_over x a may.in_array may.unused;
      unowned = unowned_on x g refl may.unowned;
      is_open = phase_on x g Open refl may.is_open;
      opened = (
        may.opened.0,
        ap (λ (i : ℕ). phase i (newer ++ t)) same
            ∙ phase_on x owner (Opened may.opened.0) (sym parts) may.opened.1,
      );
      alone = λ q. no_array_over x k q (may.alone q);
      belongs = new_on x k g refl may.belongs;
      index = may.index;
      at = may.at;
      filled = λ i less.
          let m = may.filled i less in
          (m.0, array_over x m.0 (array_address (shape o) g i) m.1, m.2);
      source = subst (λ (i : ℕ). IsInGroup o (newer ++ t) i k p) (sym same) source.0;
      direct = source.1;
      key_word = words_over x a part.Key may.in_array may.unused ∙ may.key_word;
      value_word = words_over x a part.Value may.in_array may.unused ∙ may.value_word;
    }
