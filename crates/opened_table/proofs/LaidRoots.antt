-- The words that the root of a part gets.
use Rattle.std.proofs.Common.{◌≡◌, ◌≢◌, ◌⊎◌, inl, inr, ⊎_elim, ℕ, ◌+◌, ◌*◌, ◌<◌, ◌≤◌, List, length, slice_set}
use Rattle.std.proofs.Common.{refl, sym, ap, subst, arith}
use mathlib.Core.Logic.{dite}
use native.Mathlib.Decide.{ℕ_discrete}
use Rattle.word_layout.specs.Limits.{word_count}
use Rattle.word_layout.specs.Words.{Word, FreeHead, Root, Epoch, SlotPivot, SlotGroup, Header, PlaceWord}
use Rattle.word_layout.specs.Words.{IsWord, address_of}
use Rattle.index_machine.specs.declared.opening.Opening.{Opening}
use Rattle.index_machine.specs.Keepers.{IsPart}
use Rattle.index_machine.specs.OpeningRoots.{opening_slots}
use Rattle.index_machine.specs.Words.{limits, shape, opening_word}
use Rattle.opened_table.specs.Laying.{IsOfFirst, IsOfSlot, IsOfSlots, Lays}
use Rattle.opened_table.proofs.WordKinds.{lays_as, lays_none, lays_store}

-- before any slot the root word is stored
pub no_slots : (o : Opening) (part : ℕ) (old : List ℕ) → IsPart o part → length old ≡ word_count (shape o) →
    Lays o (IsOfSlots part 0) old (slice_set old (address_of (shape o) (Root part)) (opening_word o (Root part)))
no_slots o part old is_part wide =
    lays_as o (λ w. IsOfFirst (IsOfSlot part) 0 w ⊎ (w ≡ Root part)) (IsOfSlots part 0) old
    (slice_set old (address_of (shape o) (Root part)) (opening_word o (Root part)))
    (λ w of. ⊎_elim (λ (z : IsOfFirst (IsOfSlot part) 0 w). inr z) (λ (z : w ≡ Root part). inl z) of)
    (λ w of. ⊎_elim (λ (z : w ≡ Root part). inr z) (λ (z : IsOfFirst (IsOfSlot part) 0 w). inl z) of)
    (lays_store o (IsOfFirst (IsOfSlot part) 0) (Root part) old old wide is_part
    (lays_none o (IsOfFirst (IsOfSlot part) 0) old (λ w of. let lt = of.1 in absurd (omega arith))))

-- a word of a slot is its pivot or its group
slot_word : (part i : ℕ) (w : Word) → IsOfSlot part i w → (w ≡ SlotPivot part 0 i) ⊎ (w ≡ SlotGroup part 0 i)
slot_word part i (SlotPivot p side j) of = inl (λ x. SlotPivot (of.0 x) (of.1 x) (of.2 x))
slot_word part i (SlotGroup p side j) of = inr (λ x. SlotGroup (of.0 x) (of.1 x) (of.2 x))
slot_word part i FreeHead of = absurd of
slot_word part i (Root p) of = absurd of
slot_word part i (Epoch c) of = absurd of
slot_word part i (Header g which) of = absurd of
slot_word part i (PlaceWord p at) of = absurd of

-- the table where one more slot was stored
abbrev pub slotted : Opening → ℕ → ℕ → List ℕ → List ℕ
slotted o part i words =
    slice_set
    (slice_set words (address_of (shape o) (SlotPivot part 0 i)) (opening_word o (SlotPivot part 0 i)))
    (address_of (shape o) (SlotGroup part 0 i)) (opening_word o (SlotGroup part 0 i))

-- one more slot
pub slot_more : (o : Opening) (part many : ℕ) (old words : List ℕ) → IsPart o part → many < (limits o).slots →
    length old ≡ word_count (shape o) → Lays o (IsOfSlots part many) old words →
    Lays o (IsOfSlots part (many + 1)) old (slotted o part many words)
slot_more o part many old words is_part below wide done =
    lays_as o Three (IsOfSlots part (many + 1)) old (slotted o part many words) to back
    (lays_store o Two (SlotGroup part 0 many) old
    (slice_set words (address_of (shape o) (SlotPivot part 0 many)) (opening_word o (SlotPivot part 0 many))) wide
    (is_part, omega arith, below)
    (lays_store o (IsOfSlots part many) (SlotPivot part 0 many) old words wide (is_part, omega arith, below) done))
  where
    Two : Word → Type 0
    Two w = IsOfSlots part many w ⊎ (w ≡ SlotPivot part 0 many)

    Three : Word → Type 0
    Three w = Two w ⊎ (w ≡ SlotGroup part 0 many)

    last : (w v : Word) → IsOfSlot part many v → w ≡ v → IsOfSlots part (many + 1) w
    last w v of e = inr (many, omega arith, subst (IsOfSlot part many) (sym e) of)

    to : (w : Word) → Three w → IsOfSlots part (many + 1) w
    to w of = ⊎_elim
        (λ (two : Two w). ⊎_elim
        (λ (one : IsOfSlots part many w). ⊎_elim
        (λ (root : w ≡ Root part). inl root)
        (λ (slot : IsOfFirst (IsOfSlot part) many w). inr (slot.0, (let lt = slot.1 in omega arith), slot.2))
        one)
        (λ (e : w ≡ SlotPivot part 0 many). last w (SlotPivot part 0 many) (refl, refl, refl) e) two)
        (λ (e : w ≡ SlotGroup part 0 many). last w (SlotGroup part 0 many) (refl, refl, refl) e) of

    back : (w : Word) → IsOfSlots part (many + 1) w → Three w
    back w of = ⊎_elim
        (λ (root : w ≡ Root part). inl (inl (inl root)))
        (λ (slot : IsOfFirst (IsOfSlot part) (many + 1) w).
        dite (ℕ_discrete slot.0 many)
        (λ (same : slot.0 ≡ many). ⊎_elim
        (λ (e : w ≡ SlotPivot part 0 many). inl (inr e))
        (λ (e : w ≡ SlotGroup part 0 many). inr e)
        (slot_word part many w (subst (λ (i : ℕ). IsOfSlot part i w) same slot.2)))
        (λ (other : slot.0 ≢ many).
        inl (inl (inr (slot.0, (let lt = slot.1 in omega arith), slot.2)))))
        of
