-- Numbers of the callers, added up.
use Rattle.std.proofs.Common.{◌≡◌, ◌≢◌, ℕ, zero, suc, ◌+◌, ◌<◌, ◌≤◌, Bool, true, false, cond, ◌==◌}
use Rattle.std.proofs.Common.{refl, arith, eqb-true}
use Rattle.std.proofs.lemmas.Bool.{eqb-false}

-- the numbers of the callers below this, added up
abbrev pub summed : (ℕ → ℕ) → ℕ → ℕ
summed f zero = 0
summed f (suc n) = summed f n + f n

pub summed_le : (f g : ℕ → ℕ) (n : ℕ) → ((k : ℕ) → k < n → f k ≤ g k) → summed f n ≤ summed g n
summed_le f g zero each = omega arith
summed_le f g (suc n) each =
    let before = summed_le f g n (λ k low. each k (omega arith)) in
    let last = each n (omega arith) in
    omega arith

pub summed_add : (f g : ℕ → ℕ) (n : ℕ) → summed (λ k. f k + g k) n ≡ summed f n + summed g n
summed_add f g zero = refl
summed_add f g (suc n) = let before = summed_add f g n in omega arith

-- what is added for one caller alone
abbrev pub only : ℕ → ℕ → ℕ → ℕ
only p a k = cond (p == k) a 0

pub only_other : (p a k : ℕ) → p ≢ k → only p a k ≡ 0
only_other p a k other = go (p == k) refl
  where
    go : (b : Bool) → (p == k) ≡ b → cond b a 0 ≡ 0
    go true same = absurd (other (eqb-true p k same))
    go false differ = refl

pub summed_none : (p a n : ℕ) → n ≤ p → summed (only p a) n ≡ 0
summed_none p a zero low = refl
summed_none p a (suc n) low =
    let before = summed_none p a n (omega arith) in
    let last = only_other p a n (λ same. omega (arith, same)) in
    omega arith

pub summed_only : (p a n : ℕ) → summed (only p a) n ≤ a
summed_only p a zero = omega arith
summed_only p a (suc n) = go (p == n) refl (summed_only p a n)
  where
    go : (b : Bool) → (p == n) ≡ b → summed (only p a) n ≤ a → summed (only p a) n + cond b a 0 ≤ a
    go true same few =
        let is = eqb-true p n same in
        let before = summed_none p a n (omega arith) in
        omega arith
    go false differ few = omega arith

pub summed_one : (p a n : ℕ) → p < n → a ≤ summed (only p a) n
summed_one p a zero low = absurd (omega arith)
summed_one p a (suc n) low = go (p == n) refl (summed_one p a n)
  where
    go : (b : Bool) → (p == n) ≡ b → (p < n → a ≤ summed (only p a) n) →
        a ≤ summed (only p a) n + cond b a 0
    go true same before = omega arith
    go false differ before =
        let apart : p ≢ n = eqb-false p n differ in
        let here = before (omega arith) in
        omega arith
