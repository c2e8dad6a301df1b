-- Where parts begin and end, and which part has a key.
use Rattle.std.proofs.Common.{◌≡◌, ⊎_elim, ℕ, zero, suc, ◌+◌, ◌-◌, ◌<◌, ◌≤◌, List, [], ◌∷◌, ◌++◌}
use Rattle.std.proofs.Common.{length, get_or, cond, refl, sym, ap, ◌∙◌, subst, arith}
use Rattle.std.specs.Prelude.{nat_le}
use Rattle.std.specs.List.Sorted.{IsStrictlyIncreasing}
use Rattle.std.proofs.lemmas.Bool.{cases_lt, le-leb, lt-leb, lt-ltb, le-ltb}
use Rattle.std.proofs.lemmas.List.Sums.{sum_by-cons, count_by-le-length}
use Rattle.std.proofs.lemmas.List.Elements.{All-push}
use Rattle.std.proofs.lemmas.List.{get_or_append_left, get_or_push, length-append}
use Rattle.word_layout.specs.Parts.{AreBounds, IsBadBound, most_bounds, greatest_key, part_count}
use Rattle.word_layout.specs.Parts.{first_key_of, last_key_of, part_with, IsKeyOfPart, HasKeyAlone}

-- ---- lists that rise ----

-- each number is above the one before it, and the first is above x
abbrev pub Rises : ℕ → List ℕ → Type 0
Rises x [] = Unit {0}
Rises x (b ∷ bs) = (x < b) × Rises b bs

tail_increasing : (x : ℕ) (xs : List ℕ) → IsStrictlyIncreasing (x ∷ xs) → IsStrictlyIncreasing xs
tail_increasing x xs up k h =
    let behind : get_or xs k 0 < get_or (x ∷ xs) (suc k + 1) 0 = up (suc k) (omega arith) in
    let next : suc k + 1 ≡ suc (k + 1) = omega arith in
    subst (λ (n : ℕ). get_or xs k 0 < get_or (x ∷ xs) n 0) next behind

pub rises : (x : ℕ) (xs : List ℕ) → IsStrictlyIncreasing (x ∷ xs) → Rises x xs
rises x [] up = tt
rises x (b ∷ bs) up = (up 0 (omega arith), rises b bs (tail_increasing x (b ∷ bs) up))

-- the number at each index is above x
pub above_first : (x : ℕ) (xs : List ℕ) (i : ℕ) → Rises x xs → i < length xs → x < get_or xs i 0
above_first x [] i up h = absurd (omega arith)
above_first x (b ∷ bs) zero up h = up.0
above_first x (b ∷ bs) (suc i) up h =
    let further = above_first b bs i up.1 (omega arith) in
    omega (arith, up.0)

-- a number above all others at the end of a list that rises
increasing-push : (xs : List ℕ) (y : ℕ) → IsStrictlyIncreasing xs →
    ((k : ℕ) → k + 1 ≡ length xs → get_or xs k 0 < y) → IsStrictlyIncreasing (xs ++ y ∷ [])
increasing-push xs y up above k h =
    ⊎_elim
    (λ (inner : k + 1 < length xs).
    rw (
      get_or_append_left xs (y ∷ []) 0 k (omega arith),
      get_or_append_left xs (y ∷ []) 0 (k + 1) inner,
    ) (up k inner))
    (λ (outer : length xs ≤ k + 1).
    let last : k + 1 ≡ length xs = omega (arith, length-append xs (y ∷ [])) in
    rw (
      get_or_append_left xs (y ∷ []) 0 k (omega arith),
      get_or_push xs y 0 (k + 1) (sym last),
    ) (above k last))
    (cases_lt (k + 1) (length xs))

-- ---- how many numbers are at most a key ----

-- what a bound adds to the count
abbrev counted : ℕ → ℕ → ℕ
counted key bound = cond (nat_le bound key) 1 0

part_with-cons : (b : ℕ) (bs : List ℕ) (key : ℕ) →
    part_with (b ∷ bs) key ≡ counted key b + part_with bs key
part_with-cons b bs key = sum_by-cons (counted key) b bs

part_with-counted : (b : ℕ) (bs : List ℕ) (key : ℕ) → b ≤ key →
    part_with (b ∷ bs) key ≡ suc (part_with bs key)
part_with-counted b bs key h =
    let one : counted key b ≡ 1 = rw (le-leb b key h) refl in
    omega (arith, part_with-cons b bs key)

-- no bound of a list that rises from a key on counts
part_with-none : (x : ℕ) (bs : List ℕ) (key : ℕ) → Rises x bs → key ≤ x → part_with bs key ≡ 0
part_with-none x [] key up h = refl
part_with-none x (b ∷ bs) key up h =
    let above : key < b = omega (arith, up.0) in
    let none : counted key b ≡ 0 = rw (lt-leb b key above) refl in
    omega (arith, part_with-cons b bs key, part_with-none b bs key up.1 (omega arith))

part_with-first : (b : ℕ) (bs : List ℕ) (key : ℕ) → Rises b bs → key < b →
    part_with (b ∷ bs) key ≡ 0
part_with-first b bs key up h =
    let from : (key < b) × Rises b bs = (h, up) in
    part_with-none key (b ∷ bs) key from (omega arith)

-- the key lies from the last bound that counts to before the next, where bounds rise from x
pub record Lies (x : ℕ) (bs : List ℕ) (part key : ℕ) : Type 0 where
  pub from : get_or (x ∷ bs) part 0 ≤ key
  pub before : part < length bs → key < get_or bs part 0

pub lies : (x : ℕ) (bs : List ℕ) (key : ℕ) → Rises x bs → x ≤ key → Lies x bs (part_with bs key) key
lies x [] key up h = record { from = h; before = λ short. absurd (omega arith) }
lies x (b ∷ bs) key up h =
    ⊎_elim
    (λ (above : key < b).
    subst (λ (n : ℕ). Lies x (b ∷ bs) n key) (sym (part_with-first b bs key up.1 above))
    (record { from = h; before = λ _. above }))
    (λ (counts : b ≤ key).
    let rest = lies b bs key up.1 counts in
    subst (λ (n : ℕ). Lies x (b ∷ bs) n key) (sym (part_with-counted b bs key counts))
    (record { from = rest.from; before = λ short. rest.before (omega arith) }))
    (cases_lt key b)

-- no other place is such a one
pub lies_alone : (x : ℕ) (bs : List ℕ) (part key : ℕ) → Rises x bs → part ≤ length bs →
    Lies x bs part key → part ≡ part_with bs key
lies_alone x [] part key up short at = omega arith
lies_alone x (b ∷ bs) zero key up short at =
    sym (part_with-first b bs key up.1 (at.before (omega arith)))
lies_alone x (b ∷ bs) (suc part) key up short at =
    let from = at.from in
    let counts : b ≤ key = least part from (omega arith) in
    let rest =
    lies_alone b bs part key up.1 (omega arith)
    (record { from = from; before = λ h. at.before (omega arith) })
    in
    sym (part_with-counted b bs key counts ∙ ap suc (sym rest))
  where
    least : (i : ℕ) → get_or (b ∷ bs) i 0 ≤ key → i ≤ length bs → b ≤ key
    least zero from h = from
    least (suc i) from h = omega (arith, above_first b bs i up.1 (omega arith))

-- ---- the keys of parts ----

-- a part begins where the bound before it stands
pub first_key-next : (bounds : List ℕ) (part : ℕ) →
    first_key_of bounds (part + 1) ≡ get_or bounds part 0
first_key-next bounds part =
    let next : part + 1 ≡ suc part = omega arith in
    ap (first_key_of bounds) next

-- the bound behind a part is above its least key
pub first_key-below : (bounds : List ℕ) (part : ℕ) → AreBounds bounds → part < length bounds →
    first_key_of bounds part < get_or bounds part 0
first_key-below bounds part are h =
    let next = are.rising part (omega arith) in
    subst (λ (n : ℕ). first_key_of bounds part < n) (first_key-next bounds part) next

pub first_key-within : (bounds : List ℕ) (part : ℕ) → AreBounds bounds → part < part_count bounds →
    first_key_of bounds part ≤ greatest_key
first_key-within bounds zero are h = omega arith
first_key-within bounds (suc part) are h = are.keys part 0 (omega arith)

pub last_key-inner : (bounds : List ℕ) (part : ℕ) → part < length bounds →
    last_key_of bounds part ≡ get_or bounds part 0 - 1
last_key-inner bounds part h = rw (lt-ltb part (length bounds) h) refl

pub last_key-last : (bounds : List ℕ) (part : ℕ) → length bounds ≤ part →
    last_key_of bounds part ≡ greatest_key
last_key-last bounds part h = rw (le-ltb part (length bounds) h) refl

-- each part has a key
pub has_a_key : (bounds : List ℕ) (part : ℕ) → AreBounds bounds → part < part_count bounds →
    first_key_of bounds part ≤ last_key_of bounds part
has_a_key bounds part are h =
    ⊎_elim
    (λ (inner : part < length bounds).
    omega (arith, last_key-inner bounds part inner, first_key-below bounds part are inner))
    (λ (last : length bounds ≤ part).
    omega (arith, last_key-last bounds part last, first_key-within bounds part are h))
    (cases_lt part (length bounds))

-- the next part begins just above
pub parts_join : (bounds : List ℕ) (part : ℕ) → AreBounds bounds → part < length bounds →
    first_key_of bounds (part + 1) ≡ last_key_of bounds part + 1
parts_join bounds part are h =
    omega (
      arith,
      first_key-next bounds part,
      last_key-inner bounds part h,
      first_key-below bounds part are h,
    )

-- a part's keys lie so, and what lies so is its key
is_key : (bounds : List ℕ) (part key : ℕ) → key ≤ greatest_key → Lies 0 bounds part key →
    IsKeyOfPart bounds part key
is_key bounds part key small at =
    record {
      from = at.from;
      to = ⊎_elim
          (λ (inner : part < length bounds).
          let below = at.before inner in omega (arith, last_key-inner bounds part inner))
          (λ (last : length bounds ≤ part). omega (arith, last_key-last bounds part last))
          (cases_lt part (length bounds));
    }

key_lies : (bounds : List ℕ) (part key : ℕ) → AreBounds bounds → IsKeyOfPart bounds part key →
    Lies 0 bounds part key
key_lies bounds part key are is =
    record {
      from = is.from;
      before = λ inner.
          omega (arith, is.to, last_key-inner bounds part inner, first_key-below bounds part are inner);
    }

-- each key is in the part that is counted for it, and in no other
pub has_key_alone : (bounds : List ℕ) (key : ℕ) → AreBounds bounds → key ≤ greatest_key →
    HasKeyAlone bounds (part_with bounds key) key
has_key_alone bounds key are small =
    let up = rises 0 bounds are.rising in
    record {
      is_part = omega (arith, count_by-le-length (λ bound. nat_le bound key) bounds);
      has = is_key bounds _ key small (lies 0 bounds key up (omega arith));
      alone = λ other is_part is.
          lies_alone 0 bounds other key up (omega arith) (key_lies bounds other key are is);
    }

-- ---- one bound more ----

pub are_bounds-push : (bounds : List ℕ) (bound : ℕ) → AreBounds bounds → length bounds < most_bounds →
    first_key_of bounds (length bounds) < bound → bound ≤ greatest_key →
    AreBounds (bounds ++ bound ∷ [])
are_bounds-push bounds bound are room above small =
    record {
      few = omega (arith, length-append bounds (bound ∷ []));
      rising = increasing-push (0 ∷ bounds) bound are.rising
          (λ k last.
          let at : length bounds ≡ k = omega arith in
          subst (λ (n : ℕ). first_key_of bounds n < bound) at above);
      keys = All-push (λ b. b ≤ greatest_key) bounds bound are.keys small;
    }

-- a list with a bad bound cuts nothing
pub bad_bound : (bounds : List ℕ) (at : ℕ) → at < length bounds → IsBadBound bounds at →
    AreBounds bounds → ⊥
bad_bound bounds zero h bad are =
    let low : 0 < get_or bounds 0 0 = first_key-below bounds 0 are h in
    ⊎_elim (λ (none : get_or bounds 0 0 ≡ 0). absurd (omega arith))
    (λ rest. ⊎_elim (λ falls. absurd (omega (arith, falls.0))) (λ many. absurd (omega arith)) rest)
    bad
bad_bound bounds (suc at) h bad are =
    let low : get_or bounds at 0 < get_or bounds (suc at) 0 = first_key-below bounds (suc at) are h in
    let few = are.few in
    ⊎_elim (λ (none : get_or bounds (suc at) 0 ≡ 0). absurd (omega arith))
    (λ rest.
    ⊎_elim
    (λ falls.
    let before : suc at - 1 ≡ at = omega arith in
    let least : get_or bounds (suc at) 0 ≤ get_or bounds at 0 =
    subst (λ (n : ℕ). get_or bounds (suc at) 0 ≤ get_or bounds n 0) before falls.1
    in
    absurd (omega arith))
    (λ many. absurd (omega arith))
    rest)
    bad
