-- The keys of those rows to whose keys a map gives a number.
use Rattle.std.proofs.Common.{◌≡◌, ◌≢◌, ℕ, zero, suc, ◌+◌, ◌<◌, ◌≤◌, cond, List, [], ◌∷◌}
use Rattle.std.proofs.Common.{length, get_or, take, drop, refl, sym, ap, ◌∙◌, subst, arith, eq-eqb, ne_eqb}
use Rattle.std.specs.Prelude.{◌==◌}
use Rattle.std.specs.List.{AllByRecursion}
use Rattle.std.specs.List.Sorted.{IsStrictlyIncreasing}
use mathlib.Core.Logic.{dite}
use native.Mathlib.Decide.{ℕ_discrete}
use Rattle.map_model.specs.Map.{Map, IsRising}
use Rattle.index_machine.specs.OpeningPlan.{keys_for}

-- ---- what all rows keep ----

pub from_all : (P Q : ℕ × ℕ → Type 0) (rows : Map) → ((r : ℕ × ℕ) → P r → Q r) → AllByRecursion P rows →
    AllByRecursion Q rows
from_all P Q [] f all = tt
from_all P Q (r ∷ rows) f all = (f r all.0, from_all P Q rows f all.1)

pub every_row : (P : ℕ × ℕ → Type 0) (rows : Map) → ((r : ℕ × ℕ) → P r) → AllByRecursion P rows
every_row P [] f = tt
every_row P (r ∷ rows) f = (f r, every_row P rows f)

-- ---- one more row ----

pub keys_for-same : (of : ℕ → ℕ) (g : ℕ) (r : ℕ × ℕ) (rows : Map) → of r.0 ≡ g →
    keys_for of g (r ∷ rows) ≡ r.0 ∷ keys_for of g rows
keys_for-same of g r rows same = rw (eq-eqb (of r.0) g same) refl

pub keys_for-other : (of : ℕ → ℕ) (g : ℕ) (r : ℕ × ℕ) (rows : Map) → of r.0 ≢ g →
    keys_for of g (r ∷ rows) ≡ keys_for of g rows
keys_for-other of g r rows other = rw (ne_eqb (of r.0) g other) refl

-- ---- what holds of the keys ----

-- what holds of the rows with this number holds of their keys
pub keys_at : (P : ℕ → Type 0) (of : ℕ → ℕ) (g : ℕ) (rows : Map) →
    AllByRecursion (λ (r : ℕ × ℕ). of r.0 ≡ g → P r.0) rows → (i : ℕ) →
    i < length (keys_for of g rows) → P (get_or (keys_for of g rows) i 0)
keys_at P of g [] all = λ i lt. absurd (omega arith)
keys_at P of g (r ∷ rs) all =
    dite (ℕ_discrete (of r.0) g)
    (λ (here : of r.0 ≡ g).
    subst Each (sym (keys_for-same of g r rs here)) (first here (keys_at P of g rs all.1)))
    (λ (other : of r.0 ≢ g).
    subst Each (sym (keys_for-other of g r rs other)) (keys_at P of g rs all.1))
  where
    Each : List ℕ → Type 0
    Each keys = (i : ℕ) → i < length keys → P (get_or keys i 0)

    first : of r.0 ≡ g → Each (keys_for of g rs) → Each (r.0 ∷ keys_for of g rs)
    first here later zero lt = all.0 here
    first here later (suc i) lt = later i (omega arith)

-- each has this number
pub keys_have : (of : ℕ → ℕ) (g : ℕ) (rows : Map) (i : ℕ) → i < length (keys_for of g rows) →
    of (get_or (keys_for of g rows) i 0) ≡ g
keys_have of g rows i lt =
    keys_at (λ (k : ℕ). of k ≡ g) of g rows
    (every_row (λ (r : ℕ × ℕ). of r.0 ≡ g → of r.0 ≡ g) rows (λ r here. here)) i lt

increasing : (x : ℕ) (xs : List ℕ) → ((i : ℕ) → i < length xs → x < get_or xs i 0) →
    IsStrictlyIncreasing xs → IsStrictlyIncreasing (x ∷ xs)
increasing x xs above up zero lt = above 0 (omega arith)
increasing x xs above up (suc i) lt =
    let next : suc i + 1 ≡ suc (i + 1) = omega arith in
    subst (λ (n : ℕ). get_or xs i 0 < get_or (x ∷ xs) n 0) (sym next) (up i (omega arith))

-- they rise as the rows do
pub keys_rise : (of : ℕ → ℕ) (g : ℕ) (rows : Map) → IsRising rows → IsStrictlyIncreasing (keys_for of g rows)
keys_rise of g [] rising = λ i lt. absurd (omega arith)
keys_rise of g (r ∷ rs) rising =
    let rest : List ℕ = keys_for of g rs in
    dite (ℕ_discrete (of r.0) g)
    (λ (here : of r.0 ≡ g).
    subst IsStrictlyIncreasing (sym (keys_for-same of g r rs here))
    (increasing r.0 rest
    (keys_at (λ (k : ℕ). r.0 < k) of g rs
    (from_all (λ (q : ℕ × ℕ). r.0 < q.0) (λ (q : ℕ × ℕ). of q.0 ≡ g → r.0 < q.0) rs
    (λ q less here. less) rising.0))
    (keys_rise of g rs rising.1)))
    (λ (other : of r.0 ≢ g).
    subst IsStrictlyIncreasing (sym (keys_for-other of g r rs other)) (keys_rise of g rs rising.1))

-- ---- a stretch of the keys ----

-- of these keys, those with the number g are so many from this one on
pub record IsStretch (of : ℕ → ℕ) (g from size : ℕ) (keys : List ℕ) : Type 0 where
  pub inside : (n : ℕ) → n < length keys → from ≤ n → n < from + size → of (get_or keys n 0) ≡ g
  pub only : (n : ℕ) → n < length keys → of (get_or keys n 0) ≡ g → (from ≤ n) × (n < from + size)

-- behind a first key
stretch_behind : (of : ℕ → ℕ) (g k from size : ℕ) (keys : List ℕ) → IsStretch of g (suc from) size (k ∷ keys) →
    IsStretch of g from size keys
stretch_behind of g k from size keys is = record {
  inside = λ n lt low high. is.inside (suc n) (omega arith) (omega arith) (omega arith);
  only = λ n lt e. let at = is.only (suc n) (omega arith) e in (omega (arith, at.0), omega (arith, at.1));
}

-- behind a first key of the stretch
stretch_within : (of : ℕ → ℕ) (g k size : ℕ) (keys : List ℕ) → IsStretch of g 0 (suc size) (k ∷ keys) →
    IsStretch of g 0 size keys
stretch_within of g k size keys is = record {
  inside = λ n lt low high. is.inside (suc n) (omega arith) (omega arith) (omega arith);
  only = λ n lt e. let at = is.only (suc n) (omega arith) e in (omega arith, omega (arith, at.1));
}

-- behind a first key where the stretch is empty
stretch_none : (of : ℕ → ℕ) (g k : ℕ) (keys : List ℕ) → IsStretch of g 0 0 (k ∷ keys) →
    IsStretch of g 0 0 keys
stretch_none of g k keys is = record {
  inside = λ n lt low high. absurd (omega arith);
  only = λ n lt e. let at = is.only (suc n) (omega arith) e in absurd (omega (arith, at.1));
}

-- a first one before others, of whose keys the stretch is taken
pub stretch_step : {A : Type 0} (of : ℕ → ℕ) (g k : ℕ) (a : A) (own all : List A) (keys : List ℕ) →
    ((from size : ℕ) → IsStretch of g from size keys → own ≡ take size (drop from all)) →
    (from size : ℕ) → IsStretch of g from size (k ∷ keys) →
    cond (of k == g) (a ∷ own) own ≡ take size (drop from (a ∷ all))
stretch_step of g k a own all keys rest zero zero is =
    let other : of k ≢ g = λ e. let at = is.only 0 (omega arith) e in absurd (omega (arith, at.1)) in
    rw (ne_eqb (of k) g other) (rest 0 0 (stretch_none of g k keys is))
stretch_step {A} of g k a own all keys rest zero (suc size) is =
    let same : of k ≡ g = is.inside 0 (omega arith) (omega arith) (omega arith) in
    rw (eq-eqb (of k) g same) (ap (λ (z : List A). a ∷ z) (rest 0 size (stretch_within of g k size keys is)))
stretch_step of g k a own all keys rest (suc from) size is =
    let other : of k ≢ g = λ e. let at = is.only 0 (omega arith) e in absurd (omega (arith, at.0)) in
    rw (ne_eqb (of k) g other) (rest from size (stretch_behind of g k from size keys is))

-- nothing is taken from nothing
pub none_taken : {A : Type 0} (from size : ℕ) (none : List A) → none ≡ [] → none ≡ take size (drop from none)
none_taken {A} from size none e = subst (λ (z : List A). z ≡ take size (drop from z)) (sym e) (go from)
  where
    nothing : List A
    nothing = []

    taken : (n : ℕ) → nothing ≡ take n nothing
    taken zero = refl
    taken (suc n) = refl

    go : (n : ℕ) → nothing ≡ take size (drop n nothing)
    go zero = taken size
    go (suc n) = taken size

-- where all keys with one number are among those with another by another map, and are a stretch of them, they are
-- taken from there
pub keys_taken : (of outer : ℕ → ℕ) (g p : ℕ) (rows : Map) →
    AllByRecursion (λ (r : ℕ × ℕ). of r.0 ≡ g → outer r.0 ≡ p) rows → (from size : ℕ) →
    IsStretch of g from size (keys_for outer p rows) →
    keys_for of g rows ≡ take size (drop from (keys_for outer p rows))
keys_taken of outer g p [] all from size is = none_taken from size (keys_for of g []) refl
keys_taken of outer g p (r ∷ rs) all from size is =
    let own : List ℕ = keys_for of g rs in
    let keys : List ℕ = keys_for outer p rs in
    let rest : (f n : ℕ) → IsStretch of g f n keys → own ≡ take n (drop f keys) =
    λ f n. keys_taken of outer g p rs all.1 f n
    in
    dite (ℕ_discrete (outer r.0) p)
    (λ (here : outer r.0 ≡ p).
    let same = keys_for-same outer p r rs here in
    stretch_step of g r.0 r.0 own keys keys rest from size (subst (IsStretch of g from size) same is)
    ∙ ap (λ (z : List ℕ). take size (drop from z)) (sym same))
    (λ (apart : outer r.0 ≢ p).
    let same = keys_for-other outer p r rs apart in
    keys_for-other of g r rs (λ e. apart (all.0 e))
    ∙ (rest from size (subst (IsStretch of g from size) same is)
    ∙ ap (λ (z : List ℕ). take size (drop from z)) (sym same)))
