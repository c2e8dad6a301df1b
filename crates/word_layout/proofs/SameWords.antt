-- When two names are of one word.
use Rattle.std.proofs.Common.{◌≡◌, ℕ, Bool, true, false, ◌&&◌, refl, sym, ap, ◌∙◌, eq-eqb}
use Rattle.std.specs.Prelude.{◌==◌}
use Rattle.std.proofs.lemmas.Bool.{eqb-true}
use Rattle.word_layout.specs.declared.headers.HeaderWord.{HeaderWord}
use Rattle.word_layout.specs.declared.places.Part.{Part}
use Rattle.word_layout.specs.declared.headers.HeaderWord.TheVariants.{Pivot, Size, LineError, Lanes}
use Rattle.word_layout.specs.declared.headers.HeaderWord.TheVariants.{Phase, Next, FirstSpare}
use Rattle.word_layout.specs.declared.headers.HeaderWord.TheVariants.{SecondSpare, Head, Cut}
use Rattle.word_layout.specs.Headers.{same_header_word}
use Rattle.word_layout.specs.Places.{part_offset, part_at, same_part}
use Rattle.word_layout.proofs.WordNames.{part_at-part_offset}
use Rattle.word_layout.specs.Words.{Word, FreeHead, Root, Epoch, SlotPivot, SlotGroup, Header, PlaceWord, same_word}

both : (x y : Bool) → x ≡ true → y ≡ true → (x && y) ≡ true
both x y e f = rw (e, f) refl

same_header_word-refl : (h : HeaderWord) → same_header_word h h ≡ true
same_header_word-refl Pivot = refl
same_header_word-refl Size = refl
same_header_word-refl LineError = refl
same_header_word-refl Lanes = refl
same_header_word-refl Phase = refl
same_header_word-refl Next = refl
same_header_word-refl FirstSpare = refl
same_header_word-refl SecondSpare = refl
same_header_word-refl (Head lane) = eq-eqb lane lane refl
same_header_word-refl (Cut lane) = eq-eqb lane lane refl

same_slot_word-refl : (p s i : ℕ) → ((p == p) && ((s == s) && (i == i))) ≡ true
same_slot_word-refl p s i =
    both (p == p) ((s == s) && (i == i)) (eq-eqb p p refl)
    (both (s == s) (i == i) (eq-eqb s s refl) (eq-eqb i i refl))

-- a word is itself
pub same_word-refl : (w : Word) → same_word w w ≡ true
same_word-refl FreeHead = refl
same_word-refl (Root p) = eq-eqb p p refl
same_word-refl (Epoch c) = eq-eqb c c refl
same_word-refl (SlotPivot p s i) = same_slot_word-refl p s i
same_word-refl (SlotGroup p s i) = same_slot_word-refl p s i
same_word-refl (Header g h) =
    both (g == g) (same_header_word h h) (eq-eqb g g refl) (same_header_word-refl h)
same_word-refl (PlaceWord p a) =
    both (p == p) (same_part a a) (eq-eqb p p refl) (eq-eqb (part_offset a) (part_offset a) refl)

and-true : (x y : Bool) → (x && y) ≡ true → (x ≡ true) × (y ≡ true)
and-true true y h = (refl, h)
and-true false y h = absurd cc

same_header_word-true : (h k : HeaderWord) → same_header_word h k ≡ true → h ≡ k
same_header_word-true Pivot Pivot e = refl
same_header_word-true Size Size e = refl
same_header_word-true LineError LineError e = refl
same_header_word-true Lanes Lanes e = refl
same_header_word-true Phase Phase e = refl
same_header_word-true Next Next e = refl
same_header_word-true FirstSpare FirstSpare e = refl
same_header_word-true SecondSpare SecondSpare e = refl
same_header_word-true (Head i) (Head j) e = ap Head (eqb-true i j e)
same_header_word-true (Cut i) (Cut j) e = ap Cut (eqb-true i j e)
same_header_word-true h k e = absurd cc

part_of_offset : (a b : Part) → part_offset a ≡ part_offset b → a ≡ b
part_of_offset a b e = sym (part_at-part_offset a) ∙ ap part_at e ∙ part_at-part_offset b

-- where the test passes, the two names are one
pub same_word-true : (w v : Word) → same_word w v ≡ true → w ≡ v
same_word-true FreeHead FreeHead h = refl
same_word-true (Root p) (Root q) h = ap Root (eqb-true p q h)
same_word-true (Epoch c) (Epoch d) h = ap Epoch (eqb-true c d h)
same_word-true (SlotPivot p s i) (SlotPivot q r j) h =
    let parts = and-true (p == q) ((s == r) && (i == j)) h in
    let part = eqb-true p q parts.0 in
    let slots = and-true (s == r) (i == j) parts.1 in
    let side = eqb-true s r slots.0 in
    let slot = eqb-true i j slots.1 in
    cc
same_word-true (SlotGroup p s i) (SlotGroup q r j) h =
    let parts = and-true (p == q) ((s == r) && (i == j)) h in
    let part = eqb-true p q parts.0 in
    let slots = and-true (s == r) (i == j) parts.1 in
    let side = eqb-true s r slots.0 in
    let slot = eqb-true i j slots.1 in
    cc
same_word-true (Header g h) (Header f k) e =
    let parts = and-true (g == f) (same_header_word h k) e in
    let group = eqb-true g f parts.0 in
    let word = same_header_word-true h k parts.1 in
    cc
same_word-true (PlaceWord p a) (PlaceWord q b) e =
    let parts = and-true (p == q) (same_part a b) e in
    let place = eqb-true p q parts.0 in
    let part = part_of_offset a b (eqb-true (part_offset a) (part_offset b) parts.1) in
    cc
same_word-true w v h = absurd cc
