-- A row that a hand holds: its place is small, and a store changes the one word that it names. And how
-- many rows there are.
use Rattle.std.proofs.Common.{◌≡◌, ◌≢◌, ℕ, ◌-◌, ◌<◌, ◌^◌, Bool, cond, true, false}
use Rattle.std.proofs.Common.{length, zero, suc, ◌+◌, refl, ap, ◌∙◌, subst, ne_eqb, arith}
use Rattle.std.specs.Prelude.{◌==◌, ◌&&◌}
use Rattle.word_layout.specs.declared.places.Part.{Part}
use Rattle.word_layout.specs.Shape.{Shape}
use Rattle.word_layout.specs.Places.{part_address, part_at, part_of, part_offset, rows_from}
use Rattle.word_layout.specs.Places.{same_part}
use Rattle.word_layout.specs.Words.{PlaceWord}
use Rattle.word_layout.proofs.WordNames.{part_at-part_offset}
use Rattle.word_layout.proofs.SameWords.{same_word-refl}
use Rattle.index_machine.specs.declared.events.Action.TheVariants.{StorePrivate}
use Rattle.index_machine.specs.Words.{word}
use Rattle.index_machine.specs.Rows.{Holds}
use Rattle.index_rule.specs.declared.board.Board.{Board}
use Rattle.index_rule.specs.declared.hand.Hand.{Hand}
use Rattle.index_rule.specs.Hands.{IsHandOf, Makes, known, opening_of}
use Rattle.index_rule.proofs.FreeSteps.{held_row}
use Rattle.index_rule.proofs.Stepping.{held_word_is}

-- the place leaves room for the addresses of its words
pub held_below : (b : Board) (h : Hand) (place : ℕ) → IsHandOf b h →
    Holds (opening_of b) h.number place (known h) → place < 2 ^ 28
held_below b h place of held =
    let row = held_row b h place of held in
    let high = row.1 in
    let most = (opening_of b).layout.kept.most_words in
    omega arith

second_false : (x y : Bool) → y ≡ false → (x && y) ≡ false
second_false true y e = e
second_false false y e = refl

module _ (b : Board) (h k : Hand) (place : ℕ) (part : Part) (value : ℕ) (of : IsHandOf b h)
    (m : Makes b h (StorePrivate place part value) k)
    (held : Holds (opening_of b) h.number place (known h)) where
  -- the word that was stored
  pub stored_word : word (opening_of b) (known k) (PlaceWord place part) ≡ value
  stored_word =
      held_word_is b h k (StorePrivate place part value) of m place part held
      ∙ ap (λ z. cond z value (word (opening_of b) (known h) (PlaceWord place part)))
      (same_word-refl (PlaceWord place part))

  -- the others stay
  pub other_word : (other : Part) → part_offset part ≢ part_offset other →
      word (opening_of b) (known k) (PlaceWord place other)
      ≡ word (opening_of b) (known h) (PlaceWord place other)
  other_word other differ =
      held_word_is b h k (StorePrivate place part value) of m place other held
      ∙ ap (λ z. cond z value (word (opening_of b) (known h) (PlaceWord place other)))
      (second_false (place == place) (same_part part other)
      (ne_eqb (part_offset part) (part_offset other) differ))

-- ---- the address that a store was given ----

part_of-address : (place address : ℕ) (part : Part) → address ≡ part_address place part →
    part_of place address ≡ part
part_of-address place address part e =
    let offset : address - place ≡ part_offset part = omega arith in
    ap part_at offset ∙ part_at-part_offset part

-- the part that was stored, by the address of its word
pub stores_part : (b : Board) (h k : Hand) (held place address : ℕ) (part : Part)
    (found value : ℕ) → held ≡ place → address ≡ part_address place part → found ≡ value →
    Makes b h (StorePrivate held (part_of held address) found) k →
    Makes b h (StorePrivate place part value) k
stores_part b h k held place address part found value same at equal m =
    let named : part_of held address ≡ part =
    ap (λ (p : ℕ). part_of p address) same ∙ part_of-address place address part at
    in
    subst (λ (z : ℕ × Part × ℕ). Makes b h (StorePrivate z.0 z.1 z.2) k)
    (λ i. (same i, named i, equal i)) m

-- ---- all rows ----

-- the list of so many rows has that length
pub rows-length : (s : Shape) (i n : ℕ) → length (rows_from s i n) ≡ n
rows-length s i zero = refl
rows-length s i (suc n) = let rest = rows-length s (i + 1) n in omega arith
