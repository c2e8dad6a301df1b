-- Guesses rise with the key, stay below the number of keys, and are off by at most the error.
use Rattle.std.proofs.Common.{◌≡◌, ℕ, zero, suc, ◌+◌, ◌-◌, ◌*◌, ◌/◌, ◌<◌, ◌≤◌, List, [], ◌∷◌, length, get_or, ◌⊎◌, inl, inr, arith}
use Rattle.std.proofs.Math.Nat.{mul-le-mul_right, div-le_of_le-mul}
use Rattle.std.proofs.lemmas.Bool.Decides.{nat_tests}
use Rattle.std.proofs.lemmas.Nat.{le-div}
use Rattle.std.specs.Int.{abs_diff}
use Rattle.line_window.proofs.Quotients.{div-monotone}
use Rattle.line_window.specs.Line.{guess_between, first_of, last_of, error_from, error_of}

-- a greater key has no smaller guess
pub guess-monotone : (len first last key other : ℕ) → key ≤ other → guess_between len first last key ≤ guess_between len first last other
unfolding guess_between
guess-monotone len first last key other h =
    let further : (key - first) * (len - 1) / (last - first) ≤ (other - first) * (len - 1) / (last - first) = div-monotone _ _ (last - first) (mul-le-mul_right (len - 1) (omega arith)) in
    grind (arith, nat_tests)

-- a guess is a place of the list
pub guess-within : (len first last key : ℕ) → guess_between len first last key ≤ len - 1
unfolding guess_between
guess-within len first last key = grind (arith, nat_tests)

-- each key's guess is as near as the error says
pub error-at : (guess : ℕ → ℕ) (place : ℕ) (keys : List ℕ) (i : ℕ) → i < length keys → abs_diff (guess (get_or keys i 0)) (place + i) ≤ error_from guess place keys
error-at guess place [] i h = omega arith
error-at guess place (key ∷ keys) zero h = omega arith
error-at guess place (key ∷ keys) (suc i) h = let later = error-at guess (place + 1) keys i (omega arith) in omega arith

-- where each guess and each place is within a bound, so is the error
pub error-within : (guess : ℕ → ℕ) (place most : ℕ) (keys : List ℕ) → ((key : ℕ) → guess key ≤ most) → place + length keys ≤ most + 1 → error_from guess place keys ≤ most
error-within guess place most [] low fits = omega arith
error-within guess place most (key ∷ keys) low fits = omega (arith, low key, error-within guess (place + 1) most keys low (omega arith))

-- below two keys, and up to the first key, the guess is the first place
pub guess-first : (len first last key : ℕ) → (len < 2) ⊎ (key ≤ first) → guess_between len first last key ≡ 0
unfolding guess_between
guess-first len first last key (inl few) = grind (arith, nat_tests)
guess-first len first last key (inr low) = grind (arith, nat_tests)

-- from the last key on, the guess is the last place
pub guess-last : (len first last key : ℕ) → 2 ≤ len → first < last → last ≤ key → guess_between len first last key ≡ len - 1
unfolding guess_between
guess-last len first last key many rising high =
    let past : len - 1 ≤ (key - first) * (len - 1) / (last - first) = le-div (len - 1) _ (last - first) (omega arith) (omega (arith, mul-le-mul_right {m = last - first} {n = key - first} (len - 1) (omega arith))) in
    grind (arith, nat_tests)

-- between the two keys, the guess is the quotient
pub guess-between : (len first last key : ℕ) → 2 ≤ len → first < key → key < last → guess_between len first last key ≡ (key - first) * (len - 1) / (last - first)
unfolding guess_between
guess-between len first last key many low high =
    let within : (key - first) * (len - 1) / (last - first) ≤ len - 1 = div-le_of_le-mul (last - first) (mul-le-mul_right (len - 1) (omega arith)) in
    grind (arith, nat_tests)

-- no key is further from its guess than there are keys
pub error_of-within : (keys : List ℕ) → error_of keys ≤ length keys
error_of-within keys =
    let near : error_of keys ≤ length keys - 1 = error-within _ 0 (length keys - 1) keys (guess-within (length keys) (first_of keys) (last_of keys)) (omega arith) in
    omega arith
