-- Rising pairs: what is found at a key, what a put keeps, and what a cut at one key has.
use Rattle.std.proofs.Common.{◌≡◌, ◌≢◌, ℕ, ◌<◌, ◌≤◌, [], ◌∷◌, length, Option, Some, None, nat_lt, ◌==◌, refl, sym, subst, ◌∙◌, inl, inr, arith}
use Rattle.std.specs.List.{AllByRecursion}
use Rattle.std.proofs.lemmas.Bool.{cond_both, cases_lt, cases_order, ltb-true, ltb-false, eqb-true, eqb-false}
use Rattle.std.proofs.lemmas.Bool.Decides.{nat_tests}
use Rattle.map_model.specs.Map.{Map, IsRising, look, cut, put, remove, first_from}
use Rattle.map_model.specs.Entry.{IsFound}
use Rattle.map_model.specs.Answer.{pair_at}

-- every key is above a
abbrev pub AllAbove : ℕ → Map → Type 0
AllAbove a m = AllByRecursion (λ r. a < r.0) m

above-lower : (a b : ℕ) (m : Map) → b ≤ a → AllAbove a m → AllAbove b m
above-lower a b [] le above = tt
above-lower a b (r ∷ rs) le above = (omega (arith, above.0), above-lower a b rs le above.1)

above-put : (a k v : ℕ) (m : Map) → a < k → AllAbove a m → AllAbove a (put m k v)
unfolding put
above-put a k v [] lt above = (lt, tt)
above-put a k v (r ∷ rs) lt above = grind (arith, nat_tests, above-put a k v rs lt above.1, above.0, above.1)

-- a put keeps the keys rising
pub rising-put : (m : Map) (k v : ℕ) → IsRising m → IsRising (put m k v)
unfolding put
rising-put [] k v rising = (tt, tt)
rising-put (r ∷ rs) k v rising =
    cond_both (nat_lt k r.0) _ _ IsRising
    (λ below. let lt = ltb-true k r.0 below in ((lt, above-lower r.0 k rs (omega arith) rising.0), rising))
    (λ not_below. cond_both (r.0 == k) _ _ IsRising
    (λ same. let is = eqb-true r.0 k same in (above-lower r.0 k rs (omega arith) rising.0, rising.1))
    (λ other. let le = ltb-false k r.0 not_below in let differs = eqb-false r.0 k other in
    (above-put r.0 k v rs (omega arith) rising.0, rising-put rs k v rising.1)))

look-head : (r : ℕ × ℕ) (rs : Map) (k : ℕ) → r.0 ≡ k → look (r ∷ rs) k ≡ Some r.1
unfolding look
look-head r rs k same = grind (arith, nat_tests)

look-tail : (r : ℕ × ℕ) (rs : Map) (k : ℕ) → r.0 ≢ k → look (r ∷ rs) k ≡ look rs k
unfolding look
look-tail r rs k other = grind (arith, nat_tests)

-- a key below all others is not there
pub look-above : (m : Map) (k : ℕ) → AllAbove k m → look m k ≡ None
unfolding look
look-above [] k above = refl
look-above (r ∷ rs) k above = grind (arith, nat_tests, above.0, look-above rs k above.1)

cut-above : (m : Map) (lo hi : ℕ) → AllAbove hi m → cut m lo hi ≡ []
unfolding cut
cut-above [] lo hi above = refl
cut-above (r ∷ rs) lo hi above = grind (arith, nat_tests, above.0, cut-above rs lo hi above.1)

cut-head : (r : ℕ × ℕ) (rs : Map) (k : ℕ) → r.0 ≡ k → cut (r ∷ rs) k k ≡ r ∷ cut rs k k
unfolding cut
cut-head r rs k same = grind (arith, nat_tests)

cut-tail : (r : ℕ × ℕ) (rs : Map) (k : ℕ) → r.0 < k → cut (r ∷ rs) k k ≡ cut rs k k
unfolding cut
cut-tail r rs k lt = grind (arith, nat_tests)

found-same_cut : (m n : Map) (lo hi : ℕ) (found : Option (ℕ × ℕ)) → cut n lo hi ≡ cut m lo hi → IsFound m lo hi found → IsFound n lo hi found
found-same_cut m n lo hi None same is = same ∙ is
found-same_cut m n lo hi (Some pair) same is = (same ∙ is.0, is.1)

-- a look at one key tells all that stands from that key to itself
pub found-at_one : (m : Map) (k : ℕ) → IsRising m → IsFound m k k (pair_at k (look m k))
unfolding look cut
found-at_one [] k rising = refl
found-at_one (r ∷ rs) k rising = elim (cases_order k r.0) [
  | inl same ↦
      let empty = cut-above rs k k (above-lower r.0 k rs (omega arith) rising.0) in
      let whole : cut (r ∷ rs) k k ≡ (k, r.1) ∷ [] = cut-head r rs k (sym same) ∙ (λ i. (sym same i, r.1) ∷ empty i) in
      rw (look-head r rs k (sym same)) (whole, refl)
  | inr (inl below) ↦
      let all : AllAbove k (r ∷ rs) = (below, above-lower r.0 k rs (omega arith) rising.0) in
      rw (look-above (r ∷ rs) k all) (cut-above (r ∷ rs) k k all)
  | inr (inr above) ↦
      rw (look-tail r rs k (λ e. omega arith)) (found-same_cut rs (r ∷ rs) k k _ (cut-tail r rs k above) (found-at_one rs k rising.1))
]

-- a removal keeps the keys rising
above-remove : (a k : ℕ) (m : Map) → AllAbove a m → AllAbove a (remove m k)
unfolding remove
above-remove a k [] above = tt
above-remove a k (r ∷ rs) above = grind (arith, nat_tests, above-remove a k rs above.1, above.0)

pub rising-remove : (m : Map) (k : ℕ) → IsRising m → IsRising (remove m k)
unfolding remove
rising-remove [] k rising = tt
rising-remove (r ∷ rs) k rising = cond_both (r.0 == k) _ _ IsRising
    (λ same. rising-remove rs k rising.1)
    (λ other. (above-remove r.0 k rs rising.0, rising-remove rs k rising.1))

pub length-remove-le : (m : Map) (k : ℕ) → length (remove m k) ≤ length m
unfolding remove
length-remove-le [] k = omega arith
length-remove-le (r ∷ rs) k = grind (arith, nat_tests, length-remove-le rs k)

remove-above : (m : Map) (k : ℕ) → AllAbove k m → remove m k ≡ m
unfolding remove
remove-above [] k above = refl
remove-above (r ∷ rs) k above = grind (arith, nat_tests, above.0, remove-above rs k above.1)

-- a key that is not there can be taken out of nothing
pub remove-absent : (m : Map) (k : ℕ) → look m k ≡ None → remove m k ≡ m
unfolding look remove
remove-absent [] k none = refl
remove-absent (r ∷ rs) k none = grind (arith, nat_tests, remove-absent rs k)

-- the tail of a rising map has not the key of its head
pub remove-head : (r : ℕ × ℕ) (rs : Map) (k : ℕ) → IsRising (r ∷ rs) → r.0 ≡ k → remove (r ∷ rs) k ≡ rs
unfolding remove
remove-head r rs k rising same = grind (arith, nat_tests, remove-above rs k (above-lower r.0 k rs (omega arith) rising.0))

-- what is found from a key on stands there, with nothing before it
cut-below : (r : ℕ × ℕ) (rs : Map) (lo hi : ℕ) → r.0 < lo → cut (r ∷ rs) lo hi ≡ cut rs lo hi
unfolding cut
cut-below r rs lo hi lt = grind (arith, nat_tests)

cut-first : (r : ℕ × ℕ) (rs : Map) (lo : ℕ) → lo ≤ r.0 → cut (r ∷ rs) lo r.0 ≡ r ∷ cut rs lo r.0
unfolding cut
cut-first r rs lo le = grind (arith, nat_tests)

first-head : (r : ℕ × ℕ) (rs : Map) (from : ℕ) → from ≤ r.0 → first_from (r ∷ rs) from ≡ Some r
unfolding first_from
first-head r rs from le = grind (arith, nat_tests)

first-tail : (r : ℕ × ℕ) (rs : Map) (from : ℕ) → r.0 < from → first_from (r ∷ rs) from ≡ first_from rs from
unfolding first_from
first-tail r rs from lt = grind (arith, nat_tests)

pub found-first : (m : Map) (from : ℕ) (first : ℕ × ℕ) → IsRising m → first_from m from ≡ Some first → (from ≤ first.0) × IsFound m from first.0 (Some first)
unfolding first_from
found-first [] from first rising is = cc
found-first (r ∷ rs) from first rising is = elim (cases_lt r.0 from) [
  | inl below ↦
      let rest = found-first rs from first rising.1 (sym (first-tail r rs from below) ∙ is) in
      (rest.0, (cut-below r rs from first.0 below ∙ rest.1.0, refl))
  | inr at_least ↦
      let head : Some r ≡ Some first = sym (first-head r rs from at_least) ∙ is in
      let same : r ≡ first = cc in
      let alone = cut-first r rs from at_least ∙ (λ i. r ∷ cut-above rs from r.0 rising.0 i) in
      subst (λ (p : ℕ × ℕ). (from ≤ p.0) × IsFound (r ∷ rs) from p.0 (Some p)) same (at_least, (alone, refl))
]

pub found-none : (m : Map) (from hi : ℕ) → first_from m from ≡ None → cut m from hi ≡ []
unfolding first_from cut
found-none [] from hi none = refl
found-none (r ∷ rs) from hi none = grind (arith, nat_tests, found-none rs from hi)
