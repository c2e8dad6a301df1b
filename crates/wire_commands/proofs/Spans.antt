use Rattle.std.proofs.Common.{◌≡◌, ℕ, ◌<◌, ◌≤◌, List, [], ◌∷◌, ◌++◌, length, take, get_or, refl, sym, subst, arith, ◌∙◌}
use Rattle.std.proofs.lemmas.List.{get_or-take, get_or_default, length-take-le}
use Rattle.std.proofs.lemmas.List.Elements.{recursion_from_All}
use Rattle.std.specs.List.{AllByRecursion}

-- the list is empty, or begins with an element that lacks the property
abbrev pub StopsAt : {X : Type 0} → (X → Type 0) → List X → Type 0
StopsAt P [] = Unit {0}
StopsAt P (x ∷ xs) = ¬ (P x)

-- the longest front of elements with a property is one only
pub same_span : {X : Type 0} (P : X → Type 0) (a c b d : List X)
    → AllByRecursion P a → AllByRecursion P c → StopsAt P b → StopsAt P d
    → a ++ b ≡ c ++ d → (a ≡ c) × (b ≡ d)
same_span P [] [] b d p q s t e = (refl, e)
same_span P [] (y ∷ c) [] d p q s t e = absurd (cc)
same_span P [] (y ∷ c) (x ∷ b) d p q s t e =
    let head : x ≡ y = cc in absurd (s (subst P (sym head) q.0))
same_span P (x ∷ a) [] b [] p q s t e = absurd (cc)
same_span P (x ∷ a) [] b (y ∷ d) p q s t e =
    let head : x ≡ y = cc in absurd (t (subst P head p.0))
same_span P (x ∷ a) (y ∷ c) b d p q s t e =
    let head : x ≡ y = cc in
    let tail : a ++ b ≡ c ++ d = cc in
    let rest = same_span P a c b d p.1 q.1 s t tail in (cc, rest.1)

-- a front of which each place has the property
pub take_all_have : {X : Type 0} (P : X → Type 0) (xs : List X) (d : X) (n : ℕ)
    → n ≤ length xs → ((k : ℕ) → k < n → P (get_or xs k d)) → AllByRecursion P (take n xs)
take_all_have P xs d n within each =
    recursion_from_All P (take n xs) (λ k e h.
    let below : k < n = omega (arith, length-take-le n xs within) in
    let same : get_or (take n xs) k e ≡ get_or xs k d =
    get_or-take n xs k e below ∙ get_or_default xs k e d (omega arith) in
    subst P (sym same) (each k below))

-- what all elements have, those of the second part have
pub second_part_has : {X : Type 0} (P : X → Type 0) (xs ys : List X) → AllByRecursion P (xs ++ ys)
    → AllByRecursion P ys
second_part_has P [] ys all = all
second_part_has P (x ∷ xs) ys all = second_part_has P xs ys all.1

-- what the elements of both parts have, all have
pub both_parts_have : {X : Type 0} (P : X → Type 0) (xs ys : List X) → AllByRecursion P xs
    → AllByRecursion P ys → AllByRecursion P (xs ++ ys)
both_parts_have P [] ys all others = others
both_parts_have P (x ∷ xs) ys all others = (all.0, both_parts_have P xs ys all.1 others)

-- one more element with a property
pub push_has : {X : Type 0} (P : X → Type 0) (xs : List X) (x : X) → AllByRecursion P xs → P x
    → AllByRecursion P (xs ++ x ∷ [])
push_has P [] x all here = (here, tt)
push_has P (y ∷ xs) x all here = (all.0, push_has P xs x all.1 here)
