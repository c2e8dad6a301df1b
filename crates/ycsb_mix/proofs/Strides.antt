-- The numbers of one caller, which lie as far apart as there are callers.
use Rattle.std.proofs.Common.{◌≡◌, ◌≢◌, ℕ, zero, suc, ◌+◌, ◌-◌, ◌*◌, ◌/◌, ◌%◌, ◌<◌, ◌≤◌, ◌==◌, Bool, true, cond, eqb, eq-eqb, List, [], ◌∷◌, ◌++◌, refl, sym, ap, inl, inr, ◌∙◌, arith}
use Rattle.std.specs.List.{filter, range_with_len}
use Rattle.std.proofs.Math.Nat.{div-add-mod, mod-eq_of_lt, mul-le-mul_left, mul-suc, add-mul-mod_self_left}
use Rattle.std.proofs.lemmas.Bool.{cases_lt, ne_eqb}
use Rattle.std.proofs.lemmas.List.{map-id, append-nil}
use Rattle.std.proofs.lemmas.List.FromFn.{filter_of_map_range_with_len_more}
use Rattle.ycsb_mix.specs.Mix.{numbers_of}

-- equal numbers pass the test
same_eqb : (a b : ℕ) → a ≡ b → eqb a b ≡ true
same_eqb a b e = eq-eqb a b e

-- a number and the one that is a round later are one caller's
one_round : (callers next : ℕ) → (next + callers) % callers ≡ next % callers
one_round callers next =
    let times : next + callers ≡ next + callers * 1 = omega arith in
    ap (λ n. n % callers) times ∙ add-mul-mod_self_left next callers 1

-- whether a number is the caller's adds it or not
numbers_more : (callers caller m : ℕ)
    → numbers_of callers caller (m + 1)
    ≡ numbers_of callers caller m ++ cond (m % callers == caller) (m ∷ []) []
numbers_more callers caller m =
    let p : ℕ → Bool = λ n. n % callers == caller in
    sym (ap (filter p) (map-id (range_with_len 0 (m + 1))))
    ∙ filter_of_map_range_with_len_more p (λ n. n) 0 m m (omega arith)
    ∙ ap (λ l. filter p l ++ cond (m % callers == caller) (m ∷ []) []) (map-id (range_with_len 0 m))

-- a number that is the caller's is added
numbers_taken : (callers caller m : ℕ) → m % callers ≡ caller
    → numbers_of callers caller (m + 1) ≡ numbers_of callers caller m ++ m ∷ []
numbers_taken callers caller m mine =
    numbers_more callers caller m
    ∙ ap (λ b. numbers_of callers caller m ++ cond b (m ∷ []) []) (same_eqb (m % callers) caller mine)

-- a number that is another's is not
numbers_passed : (callers caller m : ℕ) → m % callers ≢ caller
    → numbers_of callers caller (m + 1) ≡ numbers_of callers caller m
numbers_passed callers caller m other =
    numbers_more callers caller m
    ∙ ap (λ b. numbers_of callers caller m ++ cond b (m ∷ []) []) (ne_eqb (m % callers) caller other)
    ∙ append-nil (numbers_of callers caller m)

-- no two numbers of a caller are nearer than there are callers
other_number : (callers m n : ℕ) → m < n → n < m + callers → n % callers ≢ m % callers
other_number callers m n after near same =
    let low = div-add-mod m callers in
    let high = div-add-mod n callers in
    elim (cases_lt (m / callers) (n / callers)) [
      | inl more ↦
          let times = mul-le-mul_left callers more in
          absurd (omega (arith, low, high, same, times, mul-suc callers (m / callers)))
      | inr less ↦
          let times = mul-le-mul_left callers less in
          absurd (omega (arith, low, high, same, times))
    ]

-- the caller's numbers below the next one are these
pub record HasDone (callers caller next : ℕ) (done : List ℕ) : Type 0 where
  pub mine : next % callers ≡ caller
  pub all : (m : ℕ) → m ≤ next → next < m + callers → numbers_of callers caller m ≡ done

-- no number below the caller's own is the caller's
none_below : (callers caller m : ℕ) → caller < callers → m ≤ caller
    → numbers_of callers caller m ≡ []
none_below callers caller zero below within = refl
none_below callers caller (suc m) below within =
    let small : m % callers ≡ m = mod-eq_of_lt (omega arith) in
    let on : suc m ≡ m + 1 = omega arith in
    ap (numbers_of callers caller) on
    ∙ numbers_passed callers caller m (λ e. absurd (omega (arith, small, e)))
    ∙ none_below callers caller m below (omega arith)

-- the caller's first number
pub stride_start : (callers caller : ℕ) → caller < callers → HasDone callers caller caller []
stride_start callers caller below = record {
  mine = mod-eq_of_lt below;
  all = λ m within near. none_below callers caller m below within;
}

-- between two of the caller's numbers there is none
between : (callers caller next d : ℕ) → next % callers ≡ caller → d < callers
    → numbers_of callers caller (next + 1 + d) ≡ numbers_of callers caller next ++ next ∷ []
between callers caller next zero mine near =
    let on : next + 1 + 0 ≡ next + 1 = omega arith in
    ap (numbers_of callers caller) on ∙ numbers_taken callers caller next mine
between callers caller next (suc d) mine near =
    let on : next + 1 + suc d ≡ next + 1 + d + 1 = omega arith in
    ap (numbers_of callers caller) on
    ∙ numbers_passed callers caller (next + 1 + d)
    (λ e. other_number callers next (next + 1 + d) (omega arith) (omega arith) (e ∙ sym mine))
    ∙ between callers caller next d mine (omega arith)

-- one of the caller's numbers is done
pub stride_next : (callers caller next : ℕ) (done : List ℕ) → 0 < callers
    → HasDone callers caller next done
    → HasDone callers caller (next + callers) (done ++ next ∷ [])
stride_next callers caller next done some stride = record {
  mine = one_round callers next ∙ stride.mine;
  all = λ m within near.
      let on : m ≡ next + 1 + (m - (next + 1)) = omega arith in
      ap (numbers_of callers caller) on
      ∙ between callers caller next (m - (next + 1)) stride.mine (omega arith)
      ∙ ap (λ l. l ++ next ∷ []) (stride.all next (omega arith) (omega arith));
}
