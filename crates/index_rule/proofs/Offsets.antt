-- The words of the table lie apart in memory, and each is known by its offset.
use Rattle.std.proofs.Common.{◌≡◌, ◌≢◌, inl, inr, ⊎_elim, ℕ, ◌+◌, ◌*◌, ◌<◌, ◌≤◌, List, length}
use Rattle.std.proofs.Common.{slice_index, slice_set, sym, ap, ◌∙◌, arith}
use Rattle.std.proofs.Common.{get_or-set_other, get_or-set_same}
use Rattle.std.proofs.lemmas.Bool.{cases_lt, lt-ltb, le-ltb}
use Rattle.word_layout.specs.Shape.{Shape}
use Rattle.word_layout.specs.Limits.{word_count}
use Rattle.word_layout.specs.Words.{Word, FreeHead, Root, Epoch, SlotPivot, SlotGroup, Header}
use Rattle.word_layout.specs.Words.{PlaceWord, IsWord, address_of}
use Rattle.word_layout.proofs.WordNames.{address_of-within, stand_apart}
use Rattle.index_machine.specs.declared.opening.Opening.{Opening}
use Rattle.index_machine.specs.Execution.{Execution}
use Rattle.index_machine.specs.Words.{shape}
use Rattle.opened_table.specs.Laying.{StandsFor}
use Rattle.index_rule.specs.Offsets.{AreFarApart, HoldsWords, LieApart, Spreads, address_at}
use Rattle.index_rule.specs.Offsets.{cold_from, offset_count, offset_of, offset_of_word, shift_of}

-- ---- by the address ----

pub offset_of-hot : (s : Shape) (a : ℕ) → a < cold_from s → offset_of s a ≡ 16 * a
unfolding offset_of
offset_of-hot s a hot = rw (lt-ltb a (cold_from s) hot)

pub offset_of-cold : (s : Shape) (a : ℕ) → cold_from s ≤ a → offset_of s a ≡ a + shift_of s
unfolding offset_of
offset_of-cold s a cold = rw (le-ltb a (cold_from s) cold)

address_at-hot : (s : Shape) (a : ℕ) → a < cold_from s → address_at s (16 * a) ≡ a
unfolding address_at
address_at-hot s a hot =
    let before : 16 * a < 16 * cold_from s = omega arith in
    rw (lt-ltb (16 * a) (16 * cold_from s) before) (omega arith)

address_at-cold : (s : Shape) (a : ℕ) → cold_from s ≤ a → address_at s (a + shift_of s) ≡ a
unfolding address_at
address_at-cold s a cold =
    let behind : 16 * cold_from s ≤ a + shift_of s = omega arith in
    rw (le-ltb (a + shift_of s) (16 * cold_from s) behind) (omega arith)

-- the address is known by the offset
pub address_at-offset_of : (s : Shape) (a : ℕ) → address_at s (offset_of s a) ≡ a
address_at-offset_of s a =
    ⊎_elim
    (λ (hot : a < cold_from s).
    ap (address_at s) (offset_of-hot s a hot) ∙ address_at-hot s a hot)
    (λ (cold : cold_from s ≤ a).
    ap (address_at s) (offset_of-cold s a cold) ∙ address_at-cold s a cold)
    (cases_lt a (cold_from s))

-- ---- the laws ----

offset_of-within : (s : Shape) (a : ℕ) → a < word_count s → offset_of s a < offset_count s
offset_of-within s a inside =
    ⊎_elim
    (λ (hot : a < cold_from s). let is = offset_of-hot s a hot in omega arith)
    (λ (cold : cold_from s ≤ a). let is = offset_of-cold s a cold in omega arith)
    (cases_lt a (cold_from s))

pub offset_of-apart : (s : Shape) (a b : ℕ) → offset_of s a ≡ offset_of s b → a ≡ b
offset_of-apart s a b same =
    sym (address_at-offset_of s a) ∙ (ap (address_at s) same ∙ address_at-offset_of s b)

offset_of-far_apart : (s : Shape) (a b : ℕ) → a < cold_from s → a ≢ b →
    AreFarApart (offset_of s a) (offset_of s b)
offset_of-far_apart s a b hot differ =
    let here = offset_of-hot s a hot in
    ⊎_elim
    (λ (hot_too : b < cold_from s). let there = offset_of-hot s b hot_too in
    ⊎_elim (λ (before : a < b). inl (omega arith)) (λ (behind : b ≤ a). inr (omega arith))
    (cases_lt a b))
    (λ (cold : cold_from s ≤ b). let there = offset_of-cold s b cold in inl (omega arith))
    (cases_lt b (cold_from s))

pub lie_apart : (s : Shape) → LieApart s
lie_apart s =
    record {
      within = offset_of-within s;
      apart = offset_of-apart s;
      hot = offset_of-far_apart s;
    }

-- ---- by the name ----

pub offset_of_word-within : (s : Shape) (w : Word) → IsWord s w →
    offset_of_word s w < offset_count s
offset_of_word-within s w is = offset_of-within s (address_of s w) (address_of-within s w is)

-- two words at one offset are one word
offset_of_word-apart : (s : Shape) (w v : Word) → IsWord s w → IsWord s v →
    offset_of_word s w ≡ offset_of_word s v → w ≡ v
offset_of_word-apart s w v is_w is_v same =
    (stand_apart s).apart w v is_w is_v (offset_of-apart s (address_of s w) (address_of s v) same)

-- storing at a word's offset changes what that word holds
pub stored_at : (s : Shape) (memory : List ℕ) (w : Word) (value : ℕ) →
    length memory ≡ offset_count s → IsWord s w →
    slice_index (slice_set memory (offset_of_word s w) value) (offset_of_word s w) ≡ value
stored_at s memory w value wide is =
    let inside : offset_of_word s w < length memory =
    omega (arith, wide, offset_of_word-within s w is)
    in
    get_or-set_same memory (offset_of_word s w) value 0 inside

-- and no other
pub kept_at : (s : Shape) (memory : List ℕ) (w v : Word) (value : ℕ) → IsWord s w → IsWord s v →
    w ≢ v →
    slice_index (slice_set memory (offset_of_word s w) value) (offset_of_word s v)
    ≡ slice_index memory (offset_of_word s v)
kept_at s memory w v value is_w is_v differ =
    get_or-set_other memory (offset_of_word s w) (offset_of_word s v) value 0
    (λ same. differ (offset_of_word-apart s w v is_w is_v (sym same)))

-- ---- which words are hot ----

-- the word is one of the hot ones
abbrev pub IsHot : Word → Type 0
IsHot FreeHead = Unit {0}
IsHot (Root part) = Unit {0}
IsHot (Epoch caller) = Unit {0}
IsHot _ = ⊥

hot_before : (s : Shape) (w : Word) → IsWord s w → IsHot w → address_of s w < cold_from s
hot_before s FreeHead is hot = omega arith
hot_before s (Root part) is hot = omega (arith, is)
hot_before s (Epoch caller) is hot = omega (arith, is)
hot_before s (SlotPivot part side i) is hot = absurd hot
hot_before s (SlotGroup part side i) is hot = absurd hot
hot_before s (Header group which) is hot = absurd hot
hot_before s (PlaceWord place part) is hot = absurd hot

-- the offset of a hot word is 16 times its address
pub hot_word : (s : Shape) (w : Word) (address offset : ℕ) → IsWord s w → IsHot w →
    address ≡ address_of s w → offset ≡ 16 * address → offset ≡ offset_of_word s w
hot_word s w address offset is hot at times =
    times
    ∙ (ap (λ (n : ℕ). 16 * n) at ∙ sym (offset_of-hot s (address_of s w) (hot_before s w is hot)))

-- any other word stands behind the hot ones
pub cold_behind : (s : Shape) (w : Word) → IsWord s w → (IsHot w → ⊥) →
    cold_from s ≤ address_of s w
cold_behind s FreeHead is cold = absurd (cold tt)
cold_behind s (Root part) is cold = absurd (cold tt)
cold_behind s (Epoch caller) is cold = absurd (cold tt)
cold_behind s (SlotPivot part side i) is cold = omega arith
cold_behind s (SlotGroup part side i) is cold = omega arith
cold_behind s (Header group which) is cold = omega arith
cold_behind s (PlaceWord place part) is cold =
    ⊎_elim (λ row. let low = row.0 in omega arith)
    (λ array. let low = array.2.0 in omega arith) is

-- ---- the list of words by their addresses ----

-- the memory into which a list is spread holds what the list stands for
pub spread-holds : (o : Opening) (words memory : List ℕ) (t : Execution) → StandsFor o words t →
    Spreads (shape o) words memory → HoldsWords o memory t
spread-holds o words memory t stands spread =
    record {
      wide = spread.wide;
      each = λ w is.
          spread.each (address_of (shape o) w) (address_of-within (shape o) w is)
          ∙ stands.named w is;
    }

-- and the other way round
pub gathered-stands : (o : Opening) (words memory : List ℕ) (t : Execution) →
    HoldsWords o memory t → Spreads (shape o) words memory → length words ≡ word_count (shape o) →
    StandsFor o words t
gathered-stands o words memory t holds spread wide =
    record {
      wide = wide;
      named = λ w is.
          sym (spread.each (address_of (shape o) w) (address_of-within (shape o) w is))
          ∙ holds.each w is;
    }
