-- The pairs of a map whose keys pass a test, and those whose keys are below one.
use Rattle.std.proofs.Common.{◌≡◌, ◌≢◌, ⊎_elim, ℕ, ◌+◌, ◌<◌, ◌≤◌, Option, Some, None, [], ◌∷◌, ◌++◌}
use Rattle.std.proofs.Common.{Bool, true, false, Result, Ok, is_ok, cond, length, refl, sym, ap, ◌∙◌, arith}
use Rattle.std.proofs.Common.{nat_lt}
use Rattle.std.specs.Prelude.{filter}
use Rattle.std.proofs.lemmas.Bool.{cases_lt, le-ltb, lt-ltb}
use mathlib.Core.Logic.{dite}
use native.Mathlib.Decide.{ℕ_discrete}
use Rattle.map_model.specs.Map.{IsRising, Map, look}
use Rattle.machine_buffers.proofs.NextRows.{found_on, look_first, look_other, none_in_empty, none_unless}
use Rattle.resting_table.specs.Reading.{pair_if, pairs_below}

-- what a push that succeeded leaves
pub pushed : {X E : Type 0} (r : Result (Unit {0}) E) (u : Unit {0}) (found more same : X) →
    found ≡ cond (is_ok r) more same → r ≡ Ok u → found ≡ more
pushed {X} {E} r u found more same items is =
    items ∙ ap (λ (z : Result (Unit {0}) E). cond (is_ok z) more same) is

-- ---- a test ----

-- the pairs whose keys pass the test
abbrev pub passing : (ℕ → Bool) → Map → Map
passing test m = filter (λ (r : ℕ × ℕ). test r.0) m

passing-same : (test : ℕ → Bool) (r : ℕ × ℕ) (m : Map) → test r.0 ≡ true →
    passing test (r ∷ m) ≡ r ∷ passing test m
passing-same test r m is = ap (λ (b : Bool). cond b (r ∷ passing test m) (passing test m)) is

passing-other : (test : ℕ → Bool) (r : ℕ × ℕ) (m : Map) → test r.0 ≡ false →
    passing test (r ∷ m) ≡ passing test m
passing-other test r m is = ap (λ (b : Bool). cond b (r ∷ passing test m) (passing test m)) is

-- no more pass than there are
pub passing-length : (test : ℕ → Bool) (m : Map) → length (passing test m) ≤ length m
passing-length test [] = omega arith
passing-length test (r ∷ m) = go (test r.0) refl (passing-length test m)
  where
    go : (b : Bool) → test r.0 ≡ b → length (passing test m) ≤ length m →
        length (passing test (r ∷ m)) ≤ length (r ∷ m)
    go true is few = let same = ap (λ (z : Map). length z) (passing-same test r m is) in omega arith
    go false is few = let same = ap (λ (z : Map). length z) (passing-other test r m is) in omega arith

-- what holds of each key that is there holds of those behind the first
behind_first : (P : ℕ → Type 0) (r : ℕ × ℕ) (m : Map) →
    ((k v : ℕ) → look (r ∷ m) k ≡ Some v → P k) → (k v : ℕ) → look m k ≡ Some v → P k
behind_first P r m all k v e =
    dite (ℕ_discrete r.0 k)
    (λ (here : r.0 ≡ k). all k r.1 (ap (look (r ∷ m)) (sym here) ∙ look_first r m))
    (λ (other : r.0 ≢ k). all k v (look_other r m k other ∙ e))

-- tests that say the same of each key that is there let the same pairs pass
pub same_tests : (p q : ℕ → Bool) (m : Map) → ((k v : ℕ) → look m k ≡ Some v → p k ≡ q k) →
    passing p m ≡ passing q m
same_tests p q [] same = refl
same_tests p q (r ∷ m) same =
    let rest = same_tests p q m (behind_first (λ (k : ℕ). p k ≡ q k) r m same) in
    go (p r.0) refl (same r.0 r.1 (look_first r m)) rest
  where
    go : (b : Bool) → p r.0 ≡ b → p r.0 ≡ q r.0 → passing p m ≡ passing q m →
        passing p (r ∷ m) ≡ passing q (r ∷ m)
    go true is here rest =
        passing-same p r m is ∙ (ap (λ (z : Map). r ∷ z) rest ∙ sym (passing-same q r m (sym here ∙ is)))
    go false is here rest =
        passing-other p r m is ∙ (rest ∙ sym (passing-other q r m (sym here ∙ is)))

-- where all pass, they are those pairs
pub all_pass : (test : ℕ → Bool) (m : Map) → ((k v : ℕ) → look m k ≡ Some v → test k ≡ true) →
    passing test m ≡ m
all_pass test [] all = refl
all_pass test (r ∷ m) all =
    passing-same test r m (all r.0 r.1 (look_first r m))
    ∙ ap (λ (z : Map). r ∷ z) (all_pass test m (behind_first (λ (k : ℕ). test k ≡ true) r m all))

-- and where none does, there are none
pub none_pass : (test : ℕ → Bool) (m : Map) → ((k v : ℕ) → look m k ≡ Some v → test k ≡ false) →
    passing test m ≡ []
none_pass test [] none = refl
none_pass test (r ∷ m) none =
    passing-other test r m (none r.0 r.1 (look_first r m))
    ∙ none_pass test m (behind_first (λ (k : ℕ). test k ≡ false) r m none)

-- ---- a key on ----

none_below : (low : ℕ) (m : Map) → ((k v : ℕ) → look m k ≡ Some v → low ≤ k) → pairs_below low m ≡ []
none_below low m all = none_pass (λ (k : ℕ). nat_lt k low) m (λ k v e. le-ltb k low (all k v e))

-- the keys behind the first one of rising pairs are greater
above_first : (r : ℕ × ℕ) (m : Map) → IsRising (r ∷ m) → (k v : ℕ) → look m k ≡ Some v → r.0 + 1 ≤ k
above_first r m rising k v e = let up = (found_on r m k v rising e).0 in omega arith

-- where no key that is there lies between, the pairs up to a key are those below it and the one of the key
pub below_on : (m : Map) (low k : ℕ) → IsRising m → low ≤ k →
    ((j v : ℕ) → look m j ≡ Some v → low ≤ j → k ≤ j) →
    pairs_below (k + 1) m ≡ pairs_below low m ++ pair_if k (look m k)
below_on [] low k rising le none =
    ap (pair_if k) (sym (none_unless (look [] k) (λ q e. none_in_empty k q e)))
below_on (r ∷ m) low k rising le none =
    ⊎_elim
    (λ (lt : r.0 < low).
    passing-same (λ (j : ℕ). nat_lt j (k + 1)) r m (lt-ltb r.0 (k + 1) (omega arith))
    ∙ (ap (λ (z : Map). r ∷ z)
    (below_on m low k rising.1 le
    (behind_first (λ (j : ℕ). low ≤ j → k ≤ j) r m none)
    ∙ ap (λ (x : Option ℕ). pairs_below low m ++ pair_if k x)
    (sym (look_other r m k (λ e. omega arith))))
    ∙ ap (λ (z : Map). z ++ pair_if k (look (r ∷ m) k))
    (sym (passing-same (λ (j : ℕ). nat_lt j low) r m (lt-ltb r.0 low lt)))))
    (λ (from : low ≤ r.0).
    let here : k ≤ r.0 = none r.0 r.1 (look_first r m) from in
    let least : (j v : ℕ) → look (r ∷ m) j ≡ Some v → low ≤ j = λ j v e. at_least j v e from in
    dite (ℕ_discrete r.0 k)
    (λ (same : r.0 ≡ k).
    passing-same (λ (j : ℕ). nat_lt j (k + 1)) r m (lt-ltb r.0 (k + 1) (omega arith))
    ∙ (ap (λ (z : Map). r ∷ z)
    (none_below (k + 1) m (λ j v e. let up = above_first r m rising j v e in omega arith))
    ∙ ((λ i. (same i, r.1) ∷ [])
    ∙ (ap (pair_if k) (sym (look_first r m) ∙ ap (look (r ∷ m)) same)
    ∙ ap (λ (z : Map). z ++ pair_if k (look (r ∷ m) k)) (sym (none_below low (r ∷ m) least))))))
    (λ (other : r.0 ≢ k).
    let past : k < r.0 = omega arith in
    none_below (k + 1) (r ∷ m) (λ j v e. let up = all_from j v e in omega arith)
    ∙ (ap (pair_if k) (sym (nothing past))
    ∙ ap (λ (z : Map). z ++ pair_if k (look (r ∷ m) k)) (sym (none_below low (r ∷ m) least)))))
    (cases_lt r.0 low)
  where
    all_from : (j v : ℕ) → look (r ∷ m) j ≡ Some v → r.0 ≤ j
    all_from j v e =
        dite (ℕ_discrete r.0 j) (λ (same : r.0 ≡ j). omega arith)
        (λ (other : r.0 ≢ j).
        let up = above_first r m rising j v (sym (look_other r m j other) ∙ e) in omega arith)

    at_least : (j v : ℕ) → look (r ∷ m) j ≡ Some v → low ≤ r.0 → low ≤ j
    at_least j v e from = let up = all_from j v e in omega arith

    nothing : k < r.0 → look (r ∷ m) k ≡ None
    nothing past = none_unless (look (r ∷ m) k) (λ v e. let up = all_from k v e in omega arith)
