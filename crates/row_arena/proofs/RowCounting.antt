-- How many places of a list pass a test, and how many belong to some of a number of hands.
use Rattle.std.proofs.Common.{◌≡◌, ◌≢◌, ◌⊎◌, inl, inr, ⊎_elim, ℕ, zero, suc, ◌+◌, ◌<◌, ◌≤◌, Bool}
use Rattle.std.proofs.Common.{true, cond, List, [], ◌∷◌, length, refl, sym, ap, ◌∙◌, subst}
use Rattle.std.proofs.Common.{arith, ne_eqb, zero-add, eq-eqb}
use Rattle.std.specs.Prelude.{◌==◌}
use Rattle.std.specs.List.{count_by}
use Rattle.std.proofs.lemmas.List.Sums.{sum_by-cons}
use mathlib.Core.Logic.{dite}
use native.Mathlib.Decide.{ℕ_discrete}
use Rattle.index_machine.specs.Lists.{AreDistinct, In}

count_cons : (p : ℕ → Bool) (x : ℕ) (xs : List ℕ) →
    count_by p (x ∷ xs) ≡ cond (p x) 1 0 + count_by p xs
count_cons p x xs = sum_by-cons (λ y. cond (p y) 1 0) x xs

count_passed : (p : ℕ → Bool) (x : ℕ) (xs : List ℕ) → p x ≡ true →
    count_by p (x ∷ xs) ≡ 1 + count_by p xs
count_passed p x xs e =
    count_cons p x xs ∙ ap (λ (b : Bool). cond b 1 0 + count_by p xs) e

-- ---- one number ----

module _ (f : ℕ → ℕ) (n : ℕ) where
  pub hits : List ℕ → ℕ
  hits xs = count_by (λ x. f x == n) xs

  hits_cons : (x : ℕ) (xs : List ℕ) → hits (x ∷ xs) ≡ cond (f x == n) 1 0 + hits xs
  unfolding hits
  hits_cons x xs = count_cons (λ y. f y == n) x xs

  hit : (x : ℕ) (xs : List ℕ) → f x ≡ n → hits (x ∷ xs) ≡ 1 + hits xs
  hit x xs e =
      hits_cons x xs
      ∙ ap (λ (b : Bool). cond b 1 0 + hits xs) (eq-eqb (f x) n e)

  miss : (x : ℕ) (xs : List ℕ) → f x ≢ n → hits (x ∷ xs) ≡ hits xs
  miss x xs differ =
      hits_cons x xs
      ∙ ap (λ (b : Bool). cond b 1 0 + hits xs) (ne_eqb (f x) n differ)
      ∙ zero-add (hits xs)

  hits-empty : hits [] ≡ 0
  unfolding hits
  hits-empty = refl

  -- where no place has the number
  no_hit : (xs : List ℕ) → ((x : ℕ) → f x ≢ n) → hits xs ≡ 0
  no_hit [] never = hits-empty
  no_hit (x ∷ xs) never = miss x xs (never x) ∙ no_hit xs never

  no_hit_in : (xs : List ℕ) → ((x : ℕ) → In x xs → f x ≢ n) → hits xs ≡ 0
  no_hit_in [] never = hits-empty
  no_hit_in (x ∷ xs) never =
      miss x xs (never x (inl refl)) ∙ no_hit_in xs (λ y i. never y (inr i))

  -- where at most one place has it
  one_hit : (xs : List ℕ) → AreDistinct xs → ((x y : ℕ) → f x ≡ n → f y ≡ n → x ≡ y) →
      hits xs ≤ 1
  one_hit [] distinct once = let none = hits-empty in omega arith
  one_hit (x ∷ xs) distinct once =
      dite (ℕ_discrete (f x) n)
      (λ (e : f x ≡ n).
      let first = hit x xs e in
      let rest = no_hit_in xs
      (λ y i w. distinct.0 (subst (λ (a : ℕ). In a xs) (once y x w e) i)) in
      omega arith)
      (λ (differ : f x ≢ n).
      let first = miss x xs differ in
      let rest = one_hit xs distinct.1 once in
      omega arith)

-- ---- all numbers below one ----

module _ (f : ℕ → ℕ) where
  -- how many places have a number below this one
  pub hits_below : ℕ → List ℕ → ℕ
  hits_below zero xs = 0
  hits_below (suc n) xs = hits_below n xs + hits f n xs

  below_grows : (n x : ℕ) (xs : List ℕ) → hits_below n xs ≤ hits_below n (x ∷ xs)
  unfolding hits_below
  below_grows zero x xs = omega arith
  below_grows (suc n) x xs =
      let before = below_grows n x xs in
      let one = hits_cons f n x xs in
      omega arith

  below_hit : (n x : ℕ) (xs : List ℕ) → f x < n → 1 + hits_below n xs ≤ hits_below n (x ∷ xs)
  unfolding hits_below
  below_hit zero x xs low = absurd (omega arith)
  below_hit (suc n) x xs low =
      dite (ℕ_discrete (f x) n)
      (λ (e : f x ≡ n).
      let before = below_grows n x xs in
      let here = hit f n x xs e in
      omega arith)
      (λ (differ : f x ≢ n).
      let before = below_hit n x xs (omega arith) in
      let here = miss f n x xs differ in
      omega arith)

  below_most : (n : ℕ) (xs : List ℕ) → AreDistinct xs →
      ((m : ℕ) → m < n → (x y : ℕ) → f x ≡ m → f y ≡ m → x ≡ y) → hits_below n xs ≤ n
  unfolding hits_below
  below_most zero xs distinct once = omega arith
  below_most (suc n) xs distinct once =
      let before = below_most n xs distinct (λ m low. once m (omega arith)) in
      let here = one_hit f n xs distinct (once n (omega arith)) in
      omega arith

  -- and so they are one fewer where one number has no place
  pub below_fewer : (n missing : ℕ) (xs : List ℕ) → AreDistinct xs → missing < n →
      ((x : ℕ) → f x ≢ missing) →
      ((m : ℕ) → m < n → (x y : ℕ) → f x ≡ m → f y ≡ m → x ≡ y) → hits_below n xs + 1 ≤ n
  unfolding hits_below
  below_fewer zero missing xs distinct low none once = absurd (omega arith)
  below_fewer (suc n) missing xs distinct low none once =
      dite (ℕ_discrete missing n)
      (λ (e : missing ≡ n).
      let before = below_most n xs distinct (λ m small. once m (omega arith)) in
      let here = no_hit f n xs (λ x w. none x (w ∙ sym e)) in
      omega arith)
      (λ (differ : missing ≢ n).
      let before = below_fewer n missing xs distinct (omega arith) none
      (λ m small. once m (omega arith)) in
      let here = one_hit f n xs distinct (once n (omega arith)) in
      omega arith)

  -- where each place passes the test or has a number below
  pub all_counted : (p : ℕ → Bool) (n : ℕ) (xs : List ℕ) →
      ((x : ℕ) → In x xs → (p x ≡ true) ⊎ (f x < n)) →
      length xs ≤ count_by p xs + hits_below n xs
  all_counted p n [] each = omega arith
  all_counted p n (x ∷ xs) each =
      let rest = all_counted p n xs (λ y i. each y (inr i)) in
      let counts = count_cons p x xs in
      ⊎_elim
      (λ (passes : p x ≡ true).
      let one = count_passed p x xs passes in
      let more = below_grows n x xs in
      omega arith)
      (λ (low : f x < n).
      let more = below_hit n x xs low in
      omega arith)
      (each x (inl refl))
