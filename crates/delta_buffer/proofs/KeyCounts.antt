-- How many keys of a map are below one, and how many rows a list of places can have.
--
-- The fact to remember: the count goes up by one at each key that is there, one after another.
use Rattle.std.proofs.Common.{◌≡◌, ◌≢◌, inl, inr, ⊎_elim, ℕ, zero, suc, ◌+◌, ◌-◌, ◌<◌, ◌≤◌, Option}
use Rattle.std.proofs.Common.{Some, None, List, [], ◌∷◌, length, refl, sym, ap, ◌∙◌, arith}
use mathlib.Core.Logic.{dite}
use native.Mathlib.Decide.{ℕ_discrete}
use Rattle.map_model.specs.Map.{IsRising, Map, look}
use Rattle.index_machine.specs.Lists.{In}
use Rattle.delta_buffer.specs.Counting.{keys_below, one_if}
use Rattle.machine_buffers.proofs.NextRows.{none_unless}
use Rattle.machine_buffers.proofs.NextRows.{found_on, look_first, look_other, none_in_empty}

-- ---- the count ----

one_if-most : (x : Option ℕ) → one_if x ≤ 1
one_if-most None = omega arith
one_if-most (Some q) = omega arith

one_if-kept : (x y : Option ℕ) → ((q : ℕ) → x ≡ Some q → y ≡ Some q) → one_if x ≤ one_if y
one_if-kept None y kept = omega arith
one_if-kept (Some q) y kept = let same = ap one_if (kept q refl) in omega arith

pub below_zero : (m : Map) → keys_below 0 m ≡ 0
unfolding keys_below
below_zero m = refl

below_suc : (n : ℕ) (m : Map) → keys_below (suc n) m ≡ keys_below n m + one_if (look m n)
unfolding keys_below
below_suc n m = refl

-- ---- along the keys ----

pub below_rise : (low n : ℕ) (m : Map) → low ≤ n → keys_below low m ≤ keys_below n m
below_rise low zero m le =
    let same : keys_below low m ≡ keys_below 0 m =
    ap (λ (k : ℕ). keys_below k m) (let e : low ≡ 0 = omega arith in e) in
    omega arith
below_rise low (suc n) m le =
    dite (ℕ_discrete low (suc n))
    (λ (e : low ≡ suc n).
    let same : keys_below low m ≡ keys_below (suc n) m = ap (λ (k : ℕ). keys_below k m) e in
    omega arith)
    (λ (differ : low ≢ suc n).
    let before = below_rise low n m (omega arith) in
    let one = below_suc n m in
    omega arith)

-- the count stays where no key is
below_gap : (low n : ℕ) (m : Map) → low ≤ n →
    ((k : ℕ) → low ≤ k → k < n → look m k ≡ None) → keys_below n m ≤ keys_below low m
below_gap low zero m le none = let first = below_zero m in omega arith
below_gap low (suc n) m le none =
    dite (ℕ_discrete low (suc n))
    (λ (e : low ≡ suc n).
    let same : keys_below low m ≡ keys_below (suc n) m = ap (λ (k : ℕ). keys_below k m) e in
    omega arith)
    (λ (differ : low ≢ suc n).
    let before = below_gap low n m (omega arith) (λ k high less. none k high (omega arith)) in
    let one = below_suc n m in
    let here : one_if (look m n) ≡ 0 = ap one_if (none n (omega arith) (omega arith)) in
    omega arith)

-- so it grows to none further on
pub below_to : (low n : ℕ) (m : Map) → ((k : ℕ) → low ≤ k → k < n → look m k ≡ None) →
    keys_below n m ≤ keys_below low m
below_to low n m none =
    dite (ℕ_discrete (low - n) 0)
    (λ (e : low - n ≡ 0). below_gap low n m (omega arith) none)
    (λ (differ : low - n ≢ 0). below_rise n low m (omega arith))

-- and is one more at most behind the first key
pub below_next_most : (low j : ℕ) (m : Map) →
    ((k : ℕ) → low ≤ k → k < j → look m k ≡ None) → keys_below (j + 1) m ≤ keys_below low m + 1
below_next_most low j m none =
    let is : keys_below (j + 1) m ≡ keys_below j m + one_if (look m j) =
    ap (λ (k : ℕ). keys_below k m) (let e : j + 1 ≡ suc j = omega arith in e) ∙ below_suc j m in
    let most = one_if-most (look m j) in
    dite (ℕ_discrete (low - j) 0)
    (λ (e : low - j ≡ 0).
    let before = below_gap low j m (omega arith) none in
    omega arith)
    (λ (differ : low - j ≢ 0).
    let before = below_rise j low m (omega arith) in
    omega arith)

-- and one more at least behind a key that is there
pub below_next_least : (low j q : ℕ) (m : Map) → low ≤ j → look m j ≡ Some q →
    keys_below low m + 1 ≤ keys_below (j + 1) m
below_next_least low j q m le there =
    let is : keys_below (j + 1) m ≡ keys_below j m + one_if (look m j) =
    ap (λ (k : ℕ). keys_below k m) (let e : j + 1 ≡ suc j = omega arith in e) ∙ below_suc j m in
    let before = below_rise low j m le in
    let here : one_if (look m j) ≡ 1 = ap one_if there in
    omega arith

-- ---- from map to map ----

pub below_kept : (n : ℕ) (m u : Map) → ((k q : ℕ) → look m k ≡ Some q → look u k ≡ Some q) →
    keys_below n m ≤ keys_below n u
below_kept zero m u kept =
    let first = below_zero m in omega arith
below_kept (suc n) m u kept =
    let before = below_kept n m u kept in
    let here = one_if-kept (look m n) (look u n) (kept n) in
    let one = below_suc n m in
    let other = below_suc n u in
    omega arith

below_same : (n : ℕ) (m u : Map) → ((k : ℕ) → k < n → look m k ≡ look u k) →
    keys_below n m ≡ keys_below n u
below_same zero m u same = below_zero m ∙ sym (below_zero u)
below_same (suc n) m u same =
    let before = below_same n m u (λ k lt. same k (omega arith)) in
    let here : one_if (look m n) ≡ one_if (look u n) = ap one_if (same n (omega arith)) in
    let one = below_suc n m in
    let other = below_suc n u in
    omega arith

-- ---- all keys ----

look_empty : (k : ℕ) → look [] k ≡ None
unfolding look
look_empty k = refl

below_empty : (n : ℕ) → keys_below n [] ≡ 0
below_empty zero = below_zero []
below_empty (suc n) =
    let before = below_empty n in
    let here : one_if (look [] n) ≡ 0 = ap one_if (look_empty n) in
    let one = below_suc n [] in
    omega arith

-- a pair more is a key more at most
one_more_most : (n : ℕ) (r : ℕ × ℕ) (rs : Map) → keys_below n (r ∷ rs) ≤ 1 + keys_below n rs
one_more_most zero r rs = let first = below_zero (r ∷ rs) in omega arith
one_more_most (suc n) r rs =
    let one = below_suc n (r ∷ rs) in
    let other = below_suc n rs in
    dite (ℕ_discrete r.0 n)
    (λ (e : r.0 ≡ n).
    let before = below_same n (r ∷ rs) rs (λ k lt. look_other r rs k (λ z. omega arith)) in
    let most = one_if-most (look (r ∷ rs) n) in
    omega arith)
    (λ (differ : r.0 ≢ n).
    let before = one_more_most n r rs in
    let here : one_if (look (r ∷ rs) n) ≡ one_if (look rs n) =
    ap one_if (look_other r rs n differ) in
    omega arith)

-- and at least, where the pair's key is not among the others and is counted
one_more_least : (n : ℕ) (r : ℕ × ℕ) (rs : Map) → look rs r.0 ≡ None → r.0 < n →
    1 + keys_below n rs ≤ keys_below n (r ∷ rs)
one_more_least zero r rs none lt = absurd (omega arith)
one_more_least (suc n) r rs none lt =
    let one = below_suc n (r ∷ rs) in
    let other = below_suc n rs in
    dite (ℕ_discrete r.0 n)
    (λ (e : r.0 ≡ n).
    let before = below_same n (r ∷ rs) rs (λ k less. look_other r rs k (λ z. omega arith)) in
    let here : one_if (look (r ∷ rs) n) ≡ 1 =
    ap one_if (ap (look (r ∷ rs)) (sym e) ∙ look_first r rs) in
    let none_here : one_if (look rs n) ≡ 0 = ap one_if (ap (look rs) (sym e) ∙ none) in
    omega arith)
    (λ (differ : r.0 ≢ n).
    let before = one_more_least n r rs none (omega arith) in
    let here : one_if (look (r ∷ rs) n) ≡ one_if (look rs n) =
    ap one_if (look_other r rs n differ) in
    omega arith)

pub below_most : (n : ℕ) (m : Map) → keys_below n m ≤ length m
below_most n [] = let none = below_empty n in omega arith
below_most n (r ∷ rs) =
    let more = one_more_most n r rs in
    let rest = below_most n rs in
    omega arith

-- all keys are counted below one that is greater than each
pub below_least : (n : ℕ) (m : Map) → IsRising m → ((k q : ℕ) → look m k ≡ Some q → k < n) →
    length m ≤ keys_below n m
below_least n [] rising less = omega arith
below_least n (r ∷ rs) rising less =
    let rest = below_least n rs rising.1
    (λ k q e. less k q (found_on r rs k q rising e).1) in
    let apart : look rs r.0 ≡ None =
    none_unless (look rs r.0) (λ q e. let up = (found_on r rs r.0 q rising e).0 in omega arith) in
    let more = one_more_least n r rs apart (less r.0 r.1 (look_first r rs)) in
    omega arith

-- there is one
pub keys_end : (m : Map) → (n : ℕ) × ((k q : ℕ) → look m k ≡ Some q → k < n)
keys_end [] = (0, λ k q e. none_in_empty k q e)
keys_end (r ∷ rs) =
    let rest = keys_end rs in (
      r.0 + 1 + rest.0,
      λ k q e. dite (ℕ_discrete r.0 k) (λ (same : r.0 ≡ k). omega arith)
          (λ (other : r.0 ≢ k).
          let lt = rest.1 k q (sym (look_other r rs k other) ∙ e) in omega arith),
    )

-- ---- places ----

-- the list without a number that stands in it
without : (q : ℕ) (xs : List ℕ) → In q xs →
    (ys : List ℕ) × (length ys + 1 ≡ length xs) × ((p : ℕ) → In p xs → p ≢ q → In p ys)
without q [] i = absurd i
without q (x ∷ xs) i =
    dite (ℕ_discrete q x)
    (λ (e : q ≡ x). (
      xs,
      omega arith,
      λ p there differ. ⊎_elim (λ (z : p ≡ x). absurd (differ (z ∙ sym e)))
          (λ (z : In p xs). z) there,
    ))
    (λ (differ : q ≢ x).
    let rest = without q xs (⊎_elim (λ (z : q ≡ x). absurd (differ z)) (λ (z : In q xs). z) i) in
    let shorter = rest.1 in (
      x ∷ rest.0,
      omega arith,
      λ p there other. ⊎_elim (λ (z : p ≡ x). inl z) (λ (z : In p xs). inr (rest.2 p z other)) there,
    ))

-- each of the keys below this one has its place in the list
abbrev pub HavePlaces : ℕ → Map → List ℕ → Type 0
HavePlaces n m xs = (k q : ℕ) → k < n → look m k ≡ Some q → In q xs

-- each key has a place of its own
abbrev pub HaveOwnPlaces : Map → Type 0
HaveOwnPlaces m = (k j q : ℕ) → look m k ≡ Some q → look m j ≡ Some q → k ≡ j

one_fits : (n : ℕ) (m : Map) (xs : List ℕ) → HaveOwnPlaces m → HavePlaces (suc n) m xs →
    ((ys : List ℕ) → HavePlaces n m ys → keys_below n m ≤ length ys) →
    (x : Option ℕ) → look m n ≡ x → keys_below (suc n) m ≤ length xs
one_fits n m xs own places rest None e =
    let before = rest xs (λ k q lt. places k q (omega arith)) in
    let here : one_if (look m n) ≡ 0 = ap one_if e in
    let one = below_suc n m in
    omega arith
one_fits n m xs own places rest (Some q) e =
    let others = without q xs (places n q (omega arith) e) in
    let before = rest others.0
    (λ k p lt there. others.2 p (places k p (omega arith) there)
    (λ z. let same : k ≡ n = own k n q (there ∙ ap Some z) e in omega arith)) in
    let here : one_if (look m n) ≡ 1 = ap one_if e in
    let one = below_suc n m in
    let shorter = others.1 in
    omega arith

-- so there are no more keys than places
pub below_fits : (n : ℕ) (m : Map) (xs : List ℕ) → HaveOwnPlaces m → HavePlaces n m xs →
    keys_below n m ≤ length xs
below_fits zero m xs own places = let first = below_zero m in omega arith
below_fits (suc n) m xs own places =
    one_fits n m xs own places (λ ys inside. below_fits n m ys own inside) (look m n) refl
