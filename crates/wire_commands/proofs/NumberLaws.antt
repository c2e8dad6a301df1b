use Rattle.std.proofs.Common.{◌≡◌, ◌≢◌, ℕ, suc, ◌+◌, ◌-◌, ◌*◌, ◌^◌, ◌<◌, ◌≤◌, List, [], ◌∷◌, ◌++◌, length, take, drop, get_or, sym, ap, inl, inr, ◌∙◌, arith, lit<}
use Rattle.std.specs.List.{AllByRecursion}
use Rattle.std.proofs.lemmas.List.{length-append, length-take-le, take_more, take-append-drop}
use Rattle.std.proofs.lemmas.Nat.{pow-add}
use Rattle.std.proofs.lemmas.Grind.{pow_more}
use Rattle.std.proofs.Math.Nat.{one-le-pow, pow-le-pow_right, le-mul_of_pos_right, mul-le-mul_right, mul_assoc}
use Rattle.wire_commands.specs.Words.{IsBlank, EndsWord}
use Rattle.wire_commands.specs.Numbers.{BeginsWithNumber, IsDigit, value_of}
use Rattle.wire_commands.proofs.Spans.{take_all_have}

-- the value of digits in two parts
pub value_of-append : (xs ys : List ℕ)
    → value_of (xs ++ ys) ≡ value_of xs * 10 ^ length ys + value_of ys
value_of-append [] ys = omega arith
value_of-append (x ∷ xs) ys =
    let tail = value_of-append xs ys in
    let weight : 10 ^ length (xs ++ ys) ≡ 10 ^ length xs * 10 ^ length ys =
    ap (λ n. 10 ^ n) (length-append xs ys) ∙ pow-add 10 (length xs) (length ys) in
    rw (tail, weight) (omega (arith, mul_assoc (x - 48) (10 ^ length xs) (10 ^ length ys)))

-- one more digit
pub value_of_more : (digits : List ℕ) (i : ℕ) → i < length digits
    → value_of (take (i + 1) digits) ≡ value_of (take i digits) * 10 + (get_or digits i 0 - 48)
value_of_more digits i inside =
    ap value_of (take_more digits i 0 inside)
    ∙ value_of-append (take i digits) (get_or digits i 0 ∷ []) ∙ omega arith

-- the first digits have no greater value than all
pub value_of-take-le : (digits : List ℕ) (i : ℕ) → value_of (take i digits) ≤ value_of digits
value_of-take-le digits i =
    let front = take i digits in
    let rest = drop i digits in
    let whole : value_of digits ≡ value_of front * 10 ^ length rest + value_of rest =
    ap value_of (sym (take-append-drop i digits)) ∙ value_of-append front rest in
    let weight : value_of front ≤ value_of front * 10 ^ length rest =
    le-mul_of_pos_right (value_of front) (one-le-pow (length rest) 10 (omega arith)) in
    omega arith

-- the digits so far with the next one have no greater value than all
pub value_of_more-le : (digits : List ℕ) (i value : ℕ) → i < length digits
    → value ≡ value_of (take i digits)
    → value * 10 + (get_or digits i 0 - 48) ≤ value_of digits
value_of_more-le digits i value inside is =
    omega (arith, is, value_of_more digits i inside, value_of-take-le digits (i + 1))

-- no digit is a blank
digits_are_letters : (digits : List ℕ) → AllByRecursion IsDigit digits
    → AllByRecursion (λ byte. ¬ (IsBlank byte)) digits
digits_are_letters [] all = tt
digits_are_letters (digit ∷ digits) all = (
  λ blank. elim blank [ inl space ↦ omega (arith, all.0, space) | inr tab ↦ omega (arith, all.0, tab) ],
  digits_are_letters digits all.1,
)

-- blanks, and behind them digits up to the end of the word
pub begins_with_digits : (line after rest : List ℕ) (start len value : ℕ)
    → after ≡ drop start line → rest ≡ drop len after → start ≤ length line
    → ((k : ℕ) → k < start → IsBlank (get_or line k 0))
    → AllByRecursion IsDigit (take len after) → len ≤ length after → 0 < len
    → value ≡ value_of (take len after) → EndsWord rest → BeginsWithNumber line value rest
begins_with_digits line after rest start len value after_is rest_is start_within blanks digits within some value_is ends =
    let word = take len after in
    let not_none : word ≢ [] = λ e. omega (arith, ap length e, length-take-le len after within) in
    let cut : after ≡ word ++ rest =
    sym (take-append-drop len after) ∙ ap (λ (l : List ℕ). word ++ l) (sym rest_is) in
    record {
      word = word;
      begins = record {
        blanks = take start line;
        line_is =
            sym (take-append-drop start line) ∙ ap (λ (l : List ℕ). take start line ++ l) (sym after_is ∙ cut);
        all_blank = take_all_have IsBlank line 0 start start_within blanks;
        is_word = (not_none, digits_are_letters word digits);
        ends = ends;
      };
      is_number = (not_none, digits);
      value_is = sym value_is;
    }

-- so few digits have a value of 64 bits, and so has their value with one more
digits_fit : (digits : List ℕ) → AllByRecursion IsDigit digits → value_of digits < 10 ^ length digits
digits_fit [] all = lit< tt
digits_fit (digit ∷ digits) all =
    let rest = digits_fit digits all.1 in
    let weight : (digit - 48) * 10 ^ length digits ≤ 9 * 10 ^ length digits =
    mul-le-mul_right (10 ^ length digits) (omega (arith, all.0)) in
    let one_more : suc (length digits) ≡ length digits + 1 = omega arith in
    let tens : 10 ^ suc (length digits) ≡ 10 ^ length digits * 10 =
    ap (λ n. 10 ^ n) one_more ∙ pow_more 10 (length digits) in
    omega (arith, weight, rest, tens)

pub few_digits_fit : (digits : List ℕ) (value digit : ℕ) → AllByRecursion IsDigit digits
    → value ≡ value_of digits → length digits ≤ 18 → digit ≤ 9 → value * 10 + digit < 2 ^ 64
few_digits_fit digits value digit all is few small =
    let fit = digits_fit digits all in
    let bound = pow-le-pow_right {n = 10} (lit< tt) {j = 18} few in
    omega (arith, fit, bound, is)
