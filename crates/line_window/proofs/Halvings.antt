-- How many comparisons halving makes.
use Rattle.std.proofs.Common.{◌≡◌, ℕ, zero, suc, ◌+◌, ◌-◌, ◌*◌, ◌/◌, ◌^◌, ◌<◌, ◌≤◌, max, Bool, true, false, cond, nat_lt, ltb-true, ap, ◌∙◌, arith, refl}
use Rattle.std.proofs.Math.Nat.{pow-suc}
use Rattle.std.proofs.lemmas.Bool.Decides.{nat_tests}
use Rattle.line_window.specs.Search.{comparisons, comparisons_within}

-- to allow more comparisons than there are places changes nothing
comparisons_within-enough : (few many place low high : ℕ) → high - low ≤ few → high - low ≤ many → comparisons_within few place low high ≡ comparisons_within many place low high
comparisons_within-enough zero zero place low high h g = refl
comparisons_within-enough zero (suc many) place low high h g = grind (arith, nat_tests)
comparisons_within-enough (suc few) zero place low high h g = grind (arith, nat_tests)
comparisons_within-enough (suc few) (suc many) place low high h g =
    let middle = (low + high) / 2 in
    let above = comparisons_within-enough few many place (middle + 1) high (omega arith) (omega arith) in
    let below = comparisons_within-enough few many place low middle (omega arith) (omega arith) in
    rw (above, below) refl

-- one place needs no comparison
pub comparisons-met : (place low high : ℕ) → high ≤ low → comparisons place low high ≡ 0
unfolding comparisons
comparisons-met place low high met = let none : high - low ≡ 0 = omega arith in rw none refl

-- a comparison that finds the place above the middle
pub comparisons-above : (place low high middle : ℕ) → middle ≡ (low + high) / 2 → low < high → middle < place → comparisons place low high ≡ suc (comparisons place (middle + 1) high)
unfolding comparisons
comparisons-above place low high middle is h above =
    let opened : comparisons_within (suc (high - low)) place low high ≡ suc (comparisons_within (high - low) place (middle + 1) high) = rw is (grind (arith, nat_tests)) in
    comparisons_within-enough (high - low) (suc (high - low)) place low high (omega arith) (omega arith)
    ∙ (opened ∙ ap suc (comparisons_within-enough (high - low) (high - (middle + 1)) place (middle + 1) high (omega arith) (omega arith)))

-- a comparison that finds the place at the middle or below it
pub comparisons-below : (place low high middle : ℕ) → middle ≡ (low + high) / 2 → low < high → place ≤ middle → comparisons place low high ≡ suc (comparisons place low middle)
unfolding comparisons
comparisons-below place low high middle is h below =
    let opened : comparisons_within (suc (high - low)) place low high ≡ suc (comparisons_within (high - low) place low middle) = rw is (grind (arith, nat_tests)) in
    comparisons_within-enough (high - low) (suc (high - low)) place low high (omega arith) (omega arith)
    ∙ (opened ∙ ap suc (comparisons_within-enough (high - low) (middle - low) place low middle (omega arith) (omega arith)))

-- one comparison more, over twice the places
doubled : (count half size : ℕ) → 2 ^ count ≤ max 1 (2 * half) → 2 * half ≤ size → 0 < size → 2 ^ suc count ≤ max 1 (2 * size)
doubled count half size few fits some = rw pow-suc (omega arith)

-- the bound through the two tests of one comparison
few-opened : (apart up : Bool) (above below size : ℕ) → (apart ≡ true → 0 < size) → (0 < size → 2 ^ suc above ≤ max 1 (2 * size)) → (0 < size → 2 ^ suc below ≤ max 1 (2 * size)) → 2 ^ cond apart (suc (cond up above below)) 0 ≤ max 1 (2 * size)
few-opened true true above below size some up down = up (some refl)
few-opened true false above below size some up down = down (some refl)
few-opened false up' above below size some up down = omega arith

-- each comparison halves the places that are left, and the last leaves none
comparisons_within-few : (most place low high : ℕ) → 2 ^ comparisons_within most place low high ≤ max 1 (2 * (high - low))
comparisons_within-few zero place low high = omega arith
comparisons_within-few (suc most) place low high =
    let middle = (low + high) / 2 in
    let above : 2 ^ comparisons_within most place (middle + 1) high ≤ max 1 (2 * (high - (middle + 1))) = comparisons_within-few most place (middle + 1) high in
    let below : 2 ^ comparisons_within most place low middle ≤ max 1 (2 * (middle - low)) = comparisons_within-few most place low middle in
    few-opened (nat_lt low high) (nat_lt middle place) _ _ (high - low) (λ t. omega (arith, ltb-true low high t)) (doubled _ _ (high - low) above (omega arith)) (doubled _ _ (high - low) below (omega arith))

-- two to the number of comparisons is at most twice the number of places
pub comparisons-few : (place low high : ℕ) → 2 ^ comparisons place low high ≤ max 1 (2 * (high - low))
unfolding comparisons
comparisons-few place low high = comparisons_within-few (high - low) place low high
