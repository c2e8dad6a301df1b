-- The name of the word at an address, and that it is the word whose address that is.
use Rattle.std.proofs.Common.{◌≡◌, ◌∙◌, ⊎_elim, ℕ, ◌+◌, ◌-◌, ◌*◌, ◌/◌, ◌%◌, ◌<◌, ◌≤◌, length, refl, sym, ap, arith, zero, suc, get_or-set_other, get_or-set_same}
use Rattle.std.specs.Prelude.{nat_lt, if◌then◌else◌}
use Rattle.std.proofs.lemmas.Bool.{lt-ltb, le-ltb}
use Rattle.std.proofs.lemmas.Nat.{div-mul-add, mod-mul-add, mul-add-lt}
use Rattle.word_layout.specs.Shape.{Shape, parts_in, group_total}
use Rattle.word_layout.specs.Limits.{group_words_of, word_count}
use Rattle.word_layout.specs.Addresses.{first_epoch_word, first_slot_word, first_group_word, first_row_word}
use Rattle.word_layout.specs.declared.headers.HeaderWord.{HeaderWord}
use Rattle.word_layout.specs.declared.headers.HeaderWord.TheVariants.{Pivot, Size, LineError, Lanes, Phase, Next, FirstSpare, SecondSpare, Head, Cut}
use Rattle.word_layout.specs.declared.places.Part.{Part}
use Rattle.word_layout.specs.declared.places.Part.TheVariants.{Key, Value, State, Link}
use Rattle.word_layout.specs.Addresses.{array_address}
use Rattle.word_layout.specs.Headers.{number_of, header_word, header_words, most_lanes, IsHeaderWord}
use Rattle.word_layout.specs.Places.{IsArrayPlace, IsRow, IsWordOf, part_at, part_of, part_offset, part_address}
use Rattle.word_layout.specs.WordAt.{head_at, slot_at, root_at, group_at, row_at, word_at}
use Rattle.word_layout.specs.Words.{Word, FreeHead, Root, Epoch, SlotPivot, SlotGroup, Header, PlaceWord, IsWord, address_of, StandApart, StoresByName}
use Rattle.word_layout.proofs.NamedAddresses.{named_address}

-- ---- which part of the table an address is in ----

-- a choice by a test of order
first_of_two : (A : Type 0) (a b : ℕ) (x y : A) → a < b → (if nat_lt a b then x else y) ≡ x
first_of_two A a b x y h = rw (lt-ltb a b h)

second_of_two : (A : Type 0) (a b : ℕ) (x y : A) → b ≤ a → (if nat_lt a b then x else y) ≡ y
second_of_two A a b x y h = rw (le-ltb a b h)

in_heads : (s : Shape) (a : ℕ) → a < first_epoch_word s → word_at s a ≡ head_at a
unfolding word_at
in_heads s a h = first_of_two Word a (first_epoch_word s) _ _ h

in_epochs : (s : Shape) (caller : ℕ) → caller < s.limits.callers →
    word_at s (first_epoch_word s + caller) ≡ Epoch caller
unfolding word_at
in_epochs s caller h =
    let same : first_epoch_word s + caller - first_epoch_word s ≡ caller = omega arith in
    second_of_two Word (first_epoch_word s + caller) (first_epoch_word s) _ _ (omega arith)
    ∙ first_of_two Word (first_epoch_word s + caller) (first_slot_word s) _ _ (omega arith)
    ∙ ap Epoch same

in_slots : (s : Shape) (k : ℕ) → k < parts_in s * (4 * s.limits.slots) →
    word_at s (first_slot_word s + k) ≡ root_at (2 * s.limits.slots) k
unfolding word_at
in_slots s k h =
    let same : first_slot_word s + k - first_slot_word s ≡ k = omega arith in
    second_of_two Word (first_slot_word s + k) (first_epoch_word s) _ _ (omega arith)
    ∙ second_of_two Word (first_slot_word s + k) (first_slot_word s) _ _ (omega arith)
    ∙ first_of_two Word (first_slot_word s + k) (first_group_word s) _ _ (omega arith)
    ∙ ap (root_at (2 * s.limits.slots)) same

in_groups : (s : Shape) (k : ℕ) → k < group_total s * group_words_of s.limits →
    word_at s (first_group_word s + k) ≡ group_at (first_group_word s) (group_words_of s.limits) k
unfolding word_at
in_groups s k h =
    let same : first_group_word s + k - first_group_word s ≡ k = omega arith in
    second_of_two Word (first_group_word s + k) (first_epoch_word s) _ _ (omega arith)
    ∙ second_of_two Word (first_group_word s + k) (first_slot_word s) _ _ (omega arith)
    ∙ second_of_two Word (first_group_word s + k) (first_group_word s) _ _ (omega arith)
    ∙ first_of_two Word (first_group_word s + k) (first_row_word s) _ _ (omega arith)
    ∙ ap (group_at (first_group_word s) (group_words_of s.limits)) same

in_rows : (s : Shape) (k : ℕ) → word_at s (first_row_word s + k) ≡ row_at (first_row_word s) k
unfolding word_at
in_rows s k =
    let same : first_row_word s + k - first_row_word s ≡ k = omega arith in
    second_of_two Word (first_row_word s + k) (first_epoch_word s) _ _ (omega arith)
    ∙ second_of_two Word (first_row_word s + k) (first_slot_word s) _ _ (omega arith)
    ∙ second_of_two Word (first_row_word s + k) (first_group_word s) _ _ (omega arith)
    ∙ second_of_two Word (first_row_word s + k) (first_row_word s) _ _ (omega arith)
    ∙ ap (row_at (first_row_word s)) same

-- ---- each part by its quotient and remainder ----

pub part_offset-below : (part : Part) → part_offset part < 4
part_offset-below Key = omega arith
part_offset-below Value = omega arith
part_offset-below State = omega arith
part_offset-below Link = omega arith

pub part_at-part_offset : (part : Part) → part_at (part_offset part) ≡ part
part_at-part_offset Key = refl
part_at-part_offset Value = refl
part_at-part_offset State = refl
part_at-part_offset Link = refl

-- a word of a place is that of one of its parts
pub part_address-part_of : (place address : ℕ) → IsWordOf place address →
    part_address place (part_of place address) ≡ address
part_address-part_of place address within =
    by_offset (address - place) refl
  where
    by_offset : (k : ℕ) → address - place ≡ k → place + part_offset (part_at k) ≡ address
    by_offset zero e = let low = within.0 in omega arith
    by_offset (suc zero) e = omega arith
    by_offset (suc (suc zero)) e = omega arith
    by_offset (suc (suc (suc k))) e = let high = within.1 in omega arith

slot_at-pivot : (part width side i : ℕ) → 2 * i < width →
    slot_at part width (side * width + 2 * i) ≡ SlotPivot part side i
slot_at-pivot part width side i h =
    let quotient = div-mul-add side width (2 * i) h in
    let rest = mod-mul-add side width (2 * i) h in
    let slot : 2 * i / 2 ≡ i = omega arith in
    let word : 2 * i % 2 ≡ 0 = omega arith in
    rw (quotient, rest, slot, word)

slot_at-group : (part width side i : ℕ) → 2 * i + 1 < width →
    slot_at part width (side * width + (2 * i + 1)) ≡ SlotGroup part side i
slot_at-group part width side i h =
    let quotient = div-mul-add side width (2 * i + 1) h in
    let rest = mod-mul-add side width (2 * i + 1) h in
    let slot : (2 * i + 1) / 2 ≡ i = omega arith in
    let word : (2 * i + 1) % 2 ≡ 1 = omega arith in
    rw (quotient, rest, slot, word)

root_at-slot : (width part k : ℕ) → k < 2 * width →
    root_at width (part * (2 * width) + k) ≡ slot_at part width k
root_at-slot width part k h =
    let quotient = div-mul-add part (2 * width) k h in
    let rest = mod-mul-add part (2 * width) k h in
    rw (quotient, rest)

head_at_number : (lane : ℕ) → lane < most_lanes → header_word (8 + lane) ≡ Head lane
head_at_number lane h =
    let behind : 8 + lane ≡ suc (suc (suc (suc (suc (suc (suc (suc lane))))))) = omega arith in
    ap header_word behind ∙ first_of_two HeaderWord lane most_lanes _ _ h

cut_at_number : (lane : ℕ) → header_word (16 + lane) ≡ Cut lane
cut_at_number lane =
    let behind : 16 + lane ≡ suc (suc (suc (suc (suc (suc (suc (suc (8 + lane)))))))) = omega arith in
    let same : 8 + lane - most_lanes ≡ lane = omega arith in
    ap header_word behind
    ∙ second_of_two HeaderWord (8 + lane) most_lanes _ _ (omega arith)
    ∙ ap Cut same

pub header_word-number_of : (word : HeaderWord) → IsHeaderWord word →
    header_word (number_of word) ≡ word
header_word-number_of Pivot h = refl
header_word-number_of Size h = refl
header_word-number_of LineError h = refl
header_word-number_of Lanes h = refl
header_word-number_of Phase h = refl
header_word-number_of Next h = refl
header_word-number_of FirstSpare h = refl
header_word-number_of SecondSpare h = refl
header_word-number_of (Head lane) h = head_at_number lane h
header_word-number_of (Cut lane) h = cut_at_number lane

number_of-below : (word : HeaderWord) → IsHeaderWord word → number_of word < header_words
number_of-below Pivot h = omega arith
number_of-below Size h = omega arith
number_of-below LineError h = omega arith
number_of-below Lanes h = omega arith
number_of-below Phase h = omega arith
number_of-below Next h = omega arith
number_of-below FirstSpare h = omega arith
number_of-below SecondSpare h = omega arith
number_of-below (Head lane) h = omega arith
number_of-below (Cut lane) h = omega arith

group_at-header : (start width group : ℕ) (word : HeaderWord) → IsHeaderWord word →
    number_of word < width →
    group_at start width (group * width + number_of word) ≡ Header group word
group_at-header start width group word known h =
    rw (div-mul-add group width (number_of word) h, mod-mul-add group width (number_of word) h)
    (first_of_two Word (number_of word) header_words _ _ (number_of-below word known)
    ∙ ap (Header group) (header_word-number_of word known))

-- a place that is whole words of four behind a start, and a part of it
same_place : (start k offset : ℕ) → k % 4 ≡ 0 → offset < 4 →
    start + 4 * ((k + offset) / 4) ≡ start + k
same_place start k offset whole below = omega arith

same_offset : (k offset : ℕ) → k % 4 ≡ 0 → offset < 4 → (k + offset) % 4 ≡ offset
same_offset k offset whole below = omega arith

place_part : (start k : ℕ) (part : Part) → k % 4 ≡ 0 →
    PlaceWord (start + 4 * ((k + part_offset part) / 4)) (part_at ((k + part_offset part) % 4))
    ≡ PlaceWord (start + k) part
place_part start k part whole =
    rw (
      same_place start k (part_offset part) whole (part_offset-below part),
      same_offset k (part_offset part) whole (part_offset-below part),
      part_at-part_offset part,
    )

group_at-array : (start width group k : ℕ) (part : Part) → k % 4 ≡ 0 →
    header_words + (k + part_offset part) < width →
    group_at start width (group * width + (header_words + (k + part_offset part)))
    ≡ PlaceWord (start + group * width + (header_words + k)) part
group_at-array start width group k part whole h =
    let behind : ℕ = k + part_offset part in
    let same : header_words + behind - header_words ≡ behind = omega arith in
    let from : ℕ = start + group * width in
    let moved : from + (header_words + 4 * (behind / 4)) ≡ from + header_words + 4 * (behind / 4) =
    omega arith
    in
    let back : from + header_words + k ≡ from + (header_words + k) = omega arith in
    rw (
      div-mul-add group width (header_words + behind) h,
      mod-mul-add group width (header_words + behind) h,
    )
    (second_of_two Word (header_words + behind) header_words _ _ (omega arith)
    ∙ rw (same, moved)
    (place_part (from + header_words) k part whole ∙ ap (λ (p : ℕ). PlaceWord p part) back))

-- ---- the laws ----

-- the part of a row, and of a place of an array
at_row : (s : Shape) (place : ℕ) (part : Part) → IsRow s place →
    word_at s (place + part_offset part) ≡ PlaceWord place part
at_row s place part row =
    let k = place - first_row_word s in
    let same : place + part_offset part ≡ first_row_word s + (k + part_offset part) =
    omega (arith, row.0)
    in
    let back : first_row_word s + k ≡ place = omega (arith, row.0) in
    ap (word_at s) same
    ∙ in_rows s (k + part_offset part)
    ∙ place_part (first_row_word s) k part row.2
    ∙ ap (λ (p : ℕ). PlaceWord p part) back

pub array_inside : (s : Shape) (group place offset : ℕ) → group < group_total s →
    IsArrayPlace s group place → offset < 4 →
    let k = place - array_address s group 0 in
    (header_words + (k + offset) < group_words_of s.limits)
    × (group * group_words_of s.limits + (header_words + (k + offset)) < group_total s * group_words_of s.limits)
    × (place ≡ first_group_word s + group * group_words_of s.limits + (header_words + k))
array_inside s group place offset known array below =
    let k = place - array_address s group 0 in
    let low = array.0 in
    let high = array.1 in
    let whole = array.2 in
    let fits : header_words + (k + offset) < group_words_of s.limits = omega arith in (
      fits,
      omega (arith, mul-add-lt group (group_words_of s.limits) (header_words + (k + offset)) (group_total s) known fits),
      omega arith,
    )

at_array : (s : Shape) (group place : ℕ) (part : Part) → group < group_total s →
    IsArrayPlace s group place → word_at s (place + part_offset part) ≡ PlaceWord place part
at_array s group place part known array =
    let width = group_words_of s.limits in
    let k = place - array_address s group 0 in
    let offset = part_offset part in
    let inside = array_inside s group place offset known array (part_offset-below part) in
    let behind : ℕ = group * width + (header_words + (k + part_offset part)) in
    let is = inside.2 in
    let same : place + part_offset part ≡ first_group_word s + behind = omega arith in
    ap (word_at s) same
    ∙ in_groups s behind inside.1
    ∙ group_at-array (first_group_word s) width group k part array.2 inside.0
    ∙ ap (λ (p : ℕ). PlaceWord p part) (sym is)

-- a word of a slot stands inside of its part's root, and that among the roots
slot_inside : (width side k : ℕ) → side < 2 → k < width → side * width + k < 2 * width
slot_inside width side k is_side fits = omega (arith, mul-add-lt side width k 2 is_side fits)

-- the word that stands at a word's address is that word
pub word_at-address_of : (s : Shape) (w : Word) → IsWord s w → word_at s (address_of s w) ≡ w
word_at-address_of s FreeHead h = in_heads s 0 (omega arith)
word_at-address_of s (Root part) h =
    let same : 1 + part ≡ suc part = omega arith in
    ap (word_at s) same ∙ in_heads s (suc part) (omega arith)
word_at-address_of s (Epoch caller) h = in_epochs s caller h
word_at-address_of s (SlotPivot part side i) h =
    let width : ℕ = 2 * s.limits.slots in
    let fits : 2 * i < width = let below = h.2 in omega arith in
    let inside : side * width + 2 * i < 2 * width = slot_inside width side (2 * i) h.1 fits in
    let whole = mul-add-lt part (2 * width) (side * width + 2 * i) (parts_in s) h.0 inside in
    let same : address_of s (SlotPivot part side i)
    ≡ first_slot_word s + (part * (2 * width) + (side * width + 2 * i)) = omega arith
    in
    ap (word_at s) same
    ∙ in_slots s (part * (2 * width) + (side * width + 2 * i)) (omega (arith, whole))
    ∙ root_at-slot width part (side * width + 2 * i) inside
    ∙ slot_at-pivot part width side i fits
word_at-address_of s (SlotGroup part side i) h =
    let width : ℕ = 2 * s.limits.slots in
    let fits : 2 * i + 1 < width = let below = h.2 in omega arith in
    let inside : side * width + (2 * i + 1) < 2 * width =
    slot_inside width side (2 * i + 1) h.1 fits
    in
    let whole = mul-add-lt part (2 * width) (side * width + (2 * i + 1)) (parts_in s) h.0 inside in
    let same : address_of s (SlotGroup part side i)
    ≡ first_slot_word s + (part * (2 * width) + (side * width + (2 * i + 1))) = omega arith
    in
    ap (word_at s) same
    ∙ in_slots s (part * (2 * width) + (side * width + (2 * i + 1))) (omega (arith, whole))
    ∙ root_at-slot width part (side * width + (2 * i + 1)) inside
    ∙ slot_at-group part width side i fits
word_at-address_of s (Header group word) h =
    let width = group_words_of s.limits in
    let i = number_of word in
    let same : address_of s (Header group word) ≡ first_group_word s + (group * width + i) =
    omega arith
    in
    let fits : i < width = omega (arith, number_of-below word h.1) in
    let inside = mul-add-lt group width i (group_total s) h.0 fits in
    ap (word_at s) same
    ∙ in_groups s (group * width + i) (omega (arith, inside))
    ∙ group_at-header (first_group_word s) width group word h.1 fits
word_at-address_of s (PlaceWord place part) h =
    ⊎_elim (λ row. at_row s place part row)
    (λ array. at_array s array.0 place part array.1 array.2)
    h

row_within : (s : Shape) (place offset : ℕ) → IsRow s place → offset < 4 →
    place + offset < word_count s
row_within s place offset row below =
    let low = row.0 in let high = row.1 in let whole = row.2 in omega arith

-- each word stands in the table
pub address_of-within : (s : Shape) (w : Word) → IsWord s w → address_of s w < word_count s
address_of-within s FreeHead h = omega arith
address_of-within s (Root part) h = omega arith
address_of-within s (Epoch caller) h = omega arith
address_of-within s (SlotPivot part side i) h =
    let width : ℕ = 2 * s.limits.slots in
    let fits : 2 * i < width = let below = h.2 in omega arith in
    let inside : side * width + 2 * i < 2 * width = slot_inside width side (2 * i) h.1 fits in
    omega (arith, mul-add-lt part (2 * width) (side * width + 2 * i) (parts_in s) h.0 inside)
address_of-within s (SlotGroup part side i) h =
    let width : ℕ = 2 * s.limits.slots in
    let fits : 2 * i + 1 < width = let below = h.2 in omega arith in
    let inside : side * width + (2 * i + 1) < 2 * width =
    slot_inside width side (2 * i + 1) h.1 fits
    in
    omega (arith, mul-add-lt part (2 * width) (side * width + (2 * i + 1)) (parts_in s) h.0 inside)
address_of-within s (Header group word) h =
    let i = number_of word in
    let fits : i < group_words_of s.limits = omega (arith, number_of-below word h.1) in
    omega (arith, mul-add-lt group (group_words_of s.limits) i (group_total s) h.0 fits)
address_of-within s (PlaceWord place part) h =
    let below = part_offset-below part in
    ⊎_elim (λ row. row_within s place (part_offset part) row below)
    (λ array. let inside = array_inside s array.0 place (part_offset part) array.1 array.2 below in
    let bound = inside.1 in let is = inside.2 in omega arith)
    h

-- two words with one address are one word, since the address names it
address_of-apart : (s : Shape) (w v : Word) → IsWord s w → IsWord s v →
    address_of s w ≡ address_of s v → w ≡ v
address_of-apart s w v known_w known_v same =
    sym (word_at-address_of s w known_w) ∙ ap (word_at s) same ∙ word_at-address_of s v known_v

pub stand_apart : (s : Shape) → StandApart s
stand_apart s =
    record {
      within = address_of-within s;
      apart = address_of-apart s;
      named = named_address s;
    }

pub stores_by_name : (s : Shape) → StoresByName s
stores_by_name s =
    record {
      stored = λ words w value whole known.
          let inside : address_of s w < length words =
          omega (arith, whole, address_of-within s w known)
          in
          get_or-set_same words (address_of s w) value 0 inside;
      kept = λ words w v value known_w known_v other.
          get_or-set_other words (address_of s w) (address_of s v) value 0
          (λ same. other (address_of-apart s w v known_w known_v (sym same)));
    }
