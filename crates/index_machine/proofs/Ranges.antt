-- Keys in a range, as a test and as two comparisons.
use Rattle.std.proofs.Common.{◌≡◌, ℕ, ◌≤◌, Bool, true, false, cond, refl, nat_lt}
use Rattle.std.proofs.Common.{le-ltb, ltb-false}
use Rattle.index_machine.proofs.Options.{not_so}
use Rattle.index_machine.specs.Openings.{within}

pub in_range : (low high k : ℕ) → within low k high ≡ true → (low ≤ k) × (k ≤ high)
in_range low high k e = go (nat_lt k low) (nat_lt high k) refl refl e
  where
    go : (x y : Bool) → nat_lt k low ≡ x → nat_lt high k ≡ y →
        cond x false (cond y false true) ≡ true → (low ≤ k) × (k ≤ high)
    go false false p q e = (ltb-false k low p, ltb-false high k q)
    go true y p q e = not_so e
    go false true p q e = not_so e

pub range_in : (low high k : ℕ) → low ≤ k → k ≤ high → within low k high ≡ true
range_in low high k above below = rw (le-ltb k low above, le-ltb high k below) refl
