-- Each address of the table is that of a word, whichever part of the table it is in.
use Rattle.std.proofs.Common.{◌≡◌, ◌∙◌, ⊎_elim, inl, inr, ℕ, ◌+◌, ◌-◌, ◌*◌, ◌/◌, ◌%◌, ◌<◌, ◌≤◌, refl, arith, zero, suc}
use Rattle.std.proofs.lemmas.Bool.{cases_lt, lt-ltb, le-ltb}
use Rattle.std.proofs.lemmas.Nat.{div-add-mod', div_below, mod_below}
use Rattle.word_layout.specs.Shape.{Shape, parts_in, group_total}
use Rattle.word_layout.specs.Limits.{group_words_of, word_count}
use Rattle.word_layout.specs.Addresses.{first_epoch_word, first_slot_word, first_group_word, first_row_word}
use Rattle.word_layout.specs.Headers.{number_of, header_word, header_words, lane_word}
use Rattle.word_layout.specs.Headers.{most_lanes, IsHeaderWord}
use Rattle.word_layout.specs.Places.{IsArrayPlace, part_at, part_offset}
use Rattle.word_layout.specs.Words.{Word, FreeHead, Root, Epoch, SlotPivot, SlotGroup, Header, PlaceWord, IsWord, address_of}

-- a word of the table that stands at an address
abbrev NamedAt : Shape → ℕ → Type 0
NamedAt s a = (w : Word) × IsWord s w × (address_of s w ≡ a)

-- ---- the heads and the epochs ----

in_heads : (s : Shape) (a : ℕ) → a < first_epoch_word s → NamedAt s a
in_heads s zero h = (FreeHead, tt, refl)
in_heads s (suc part) h = (Root part, omega arith, omega arith)

in_epochs : (s : Shape) (a : ℕ) → first_epoch_word s ≤ a → a < first_slot_word s → NamedAt s a
in_epochs s a behind h = (Epoch (a - first_epoch_word s), omega arith, omega arith)

-- ---- the roots ----

-- a word of a slot, which is its first or its second
at_slot : (s : Shape) (part side i second a : ℕ) → part < parts_in s → side < 2 → i < s.limits.slots →
    second < 2 →
    first_slot_word s + part * (4 * s.limits.slots) + side * (2 * s.limits.slots) + 2 * i + second ≡ a →
    NamedAt s a
at_slot s part side i zero a is_part is_side is_slot h is =
    (SlotPivot part side i, (is_part, is_side, is_slot), omega arith)
at_slot s part side i (suc zero) a is_part is_side is_slot h is =
    (SlotGroup part side i, (is_part, is_side, is_slot), omega arith)
at_slot s part side i (suc (suc _)) a is_part is_side is_slot h is = absurd (omega arith)

-- the word so far behind the start of a part's root
in_root : (s : Shape) (part k a : ℕ) → part < parts_in s → k < 4 * s.limits.slots →
    first_slot_word s + part * (4 * s.limits.slots) + k ≡ a → NamedAt s a
in_root s part k a is_part h is =
    let width : ℕ = 2 * s.limits.slots in
    let rest : ℕ = k % width in
    let whole : k / width * width + rest ≡ k = div-add-mod' k width in
    let below : rest < width = mod_below k width (omega arith) in
    let side : k / width < 2 = div_below k width 2 (omega arith) (omega arith) in
    at_slot s part (k / width) (rest / 2) (rest % 2) a is_part side (omega arith) (omega arith)
    (omega arith)

positive : (a b k : ℕ) → k < a * b → 0 < b
positive a zero k h = absurd (omega arith)
positive a (suc b) k h = omega arith

-- the word so far behind the start of the roots
in_roots : (s : Shape) (k a : ℕ) → k < parts_in s * (4 * s.limits.slots) → first_slot_word s + k ≡ a →
    NamedAt s a
in_roots s k a h is =
    let width : ℕ = 4 * s.limits.slots in
    let some : 0 < width = positive (parts_in s) width k h in
    let rest : ℕ = k % width in
    let whole : k / width * width + rest ≡ k = div-add-mod' k width in
    let below : rest < width = mod_below k width some in
    let part : k / width < parts_in s = div_below k width (parts_in s) some h in
    in_root s (k / width) rest a part below (omega arith)

-- ---- the groups ----

-- the head or the cut with a number
lane_with : (n : ℕ) → number_of (lane_word n) ≡ 8 + n
lane_with n =
    ⊎_elim (λ head. rw (lt-ltb n most_lanes head) refl)
    (λ cut. rw (le-ltb n most_lanes cut) (omega arith))
    (cases_lt n most_lanes)

behind_eight : (n : ℕ) → 8 + n ≡ suc (suc (suc (suc (suc (suc (suc (suc n)))))))
behind_eight n = omega arith

-- the header word with a number
header_with : (number : ℕ) → number < header_words → number_of (header_word number) ≡ number
header_with zero h = refl
header_with (suc zero) h = refl
header_with (suc (suc zero)) h = refl
header_with (suc (suc (suc zero))) h = refl
header_with (suc (suc (suc (suc zero)))) h = refl
header_with (suc (suc (suc (suc (suc zero))))) h = refl
header_with (suc (suc (suc (suc (suc (suc zero)))))) h = refl
header_with (suc (suc (suc (suc (suc (suc (suc zero))))))) h = refl
header_with (suc (suc (suc (suc (suc (suc (suc (suc n)))))))) h = lane_with n ∙ behind_eight n

-- it is one that a header has
lane_is : (n : ℕ) → n + 8 < header_words → IsHeaderWord (lane_word n)
lane_is n h =
    ⊎_elim (λ head. rw (lt-ltb n most_lanes head) head)
    (λ cut. rw (le-ltb n most_lanes cut) (omega arith))
    (cases_lt n most_lanes)

is_header_word : (number : ℕ) → number < header_words → IsHeaderWord (header_word number)
is_header_word zero h = tt
is_header_word (suc zero) h = tt
is_header_word (suc (suc zero)) h = tt
is_header_word (suc (suc (suc zero))) h = tt
is_header_word (suc (suc (suc (suc zero)))) h = tt
is_header_word (suc (suc (suc (suc (suc zero))))) h = tt
is_header_word (suc (suc (suc (suc (suc (suc zero)))))) h = tt
is_header_word (suc (suc (suc (suc (suc (suc (suc zero))))))) h = tt
is_header_word (suc (suc (suc (suc (suc (suc (suc (suc n)))))))) h = lane_is n (omega arith)

-- the part that stands so far behind its place
part_with : (offset : ℕ) → offset < 4 → part_offset (part_at offset) ≡ offset
part_with zero h = refl
part_with (suc zero) h = refl
part_with (suc (suc zero)) h = refl
part_with (suc (suc (suc zero))) h = refl
part_with (suc (suc (suc (suc _)))) h = absurd (omega arith)

-- the word so far behind the start of a group's header
in_header : (s : Shape) (group r a : ℕ) → group < group_total s → r < header_words →
    first_group_word s + (group * group_words_of s.limits + r) ≡ a → NamedAt s a
in_header s group r a is_group h is =
    (Header group (header_word r), (is_group, is_header_word r h), omega (arith, header_with r h))

-- the word so far behind the start of a group's array
in_array : (s : Shape) (group r a : ℕ) → group < group_total s → r < 4 * s.limits.group_size →
    first_group_word s + (group * group_words_of s.limits + header_words + r) ≡ a → NamedAt s a
in_array s group r a is_group h is =
    let offset = part_with (r % 4) (omega arith) in
    let place : ℕ = first_group_word s + group * group_words_of s.limits + header_words + 4 * (r / 4) in
    let array : IsArrayPlace s group place = (omega arith, omega arith, omega arith) in
    (PlaceWord place (part_at (r % 4)), inr (group, is_group, array), omega arith)

-- the word so far behind the start of the groups
in_groups : (s : Shape) (k a : ℕ) → k < group_total s * group_words_of s.limits →
    first_group_word s + k ≡ a → NamedAt s a
in_groups s k a h is =
    let width : ℕ = group_words_of s.limits in
    let rest : ℕ = k % width in
    let whole : k / width * width + rest ≡ k = div-add-mod' k width in
    let below : rest < width = mod_below k width (omega arith) in
    let group : k / width < group_total s = div_below k width (group_total s) (omega arith) h in
    ⊎_elim (λ header. in_header s (k / width) rest a group header (omega arith))
    (λ array. in_array s (k / width) (rest - header_words) a group (omega arith) (omega arith))
    (cases_lt rest header_words)

-- ---- the record rows ----

-- the word so far behind the start of the record rows
in_rows : (s : Shape) (k a : ℕ) → k < 4 * s.limits.records → first_row_word s + k ≡ a → NamedAt s a
in_rows s k a h is =
    let offset = part_with (k % 4) (omega arith) in
    let place : ℕ = first_row_word s + 4 * (k / 4) in
    (PlaceWord place (part_at (k % 4)), inl (omega arith, omega arith, omega arith), omega arith)

-- ---- the whole table ----

behind_root : (s : Shape) (a : ℕ) → first_group_word s ≤ a → a < word_count s → NamedAt s a
behind_root s a behind h =
    let groups : ℕ = first_group_word s in
    let rows : ℕ = first_row_word s in
    ⊎_elim (λ before_rows. in_groups s (a - groups) a (omega arith) (omega arith))
    (λ in_last. in_rows s (a - rows) a (omega arith) (omega arith))
    (cases_lt a rows)

behind_heads : (s : Shape) (a : ℕ) → first_slot_word s ≤ a → a < word_count s → NamedAt s a
behind_heads s a behind h =
    let slots : ℕ = first_slot_word s in
    ⊎_elim (λ before_groups. in_roots s (a - slots) a (omega arith) (omega arith))
    (λ further. behind_root s a further h)
    (cases_lt a (first_group_word s))

behind_free : (s : Shape) (a : ℕ) → first_epoch_word s ≤ a → a < word_count s → NamedAt s a
behind_free s a behind h =
    ⊎_elim (λ before_slots. in_epochs s a behind before_slots)
    (λ further. behind_heads s a further h)
    (cases_lt a (first_slot_word s))

-- each address of the table is that of a word
pub named_address : (s : Shape) (a : ℕ) → a < word_count s → NamedAt s a
named_address s a h =
    ⊎_elim (λ before_epochs. in_heads s a before_epochs)
    (λ further. behind_free s a further h)
    (cases_lt a (first_epoch_word s))
