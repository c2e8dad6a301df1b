-- A number in decimal digits is a word.
use Rattle.std.proofs.Common.{◌≡◌, ℕ, ◌+◌, ◌/◌, ◌%◌, ◌^◌, ◌<◌, ◌≤◌, List, [], ◌∷◌, ◌++◌, inl, inr, ◌∙◌, arith}
use Rattle.std.specs.Fmt.{decimal}
use Rattle.std.specs.List.{AllByRecursion}
use Rattle.std.proofs.lemmas.Fmt.{decimal_by_steps}
use Rattle.wire_commands.specs.Words.{IsBlank, IsWord}
use Rattle.wire_commands.specs.Numbers.{IsDigit, IsNumber, value_of}
use Rattle.wire_commands.proofs.Spans.{push_has}
use Rattle.wire_commands.proofs.NumberLaws.{value_of-append}
use Rattle.trace_text.proofs.TextLaws.{append-some}

-- what has a property has one that follows
pub all_weaker : {X : Type 0} (P Q : X → Type 0) (xs : List X) → ((x : X) → P x → Q x)
    → AllByRecursion P xs → AllByRecursion Q xs
all_weaker P Q [] follows all = tt
all_weaker P Q (x ∷ xs) follows all = (follows x all.0, all_weaker P Q xs follows all.1)

-- these digits are a number with this value
pub record IsWritten (n : ℕ) (written : List ℕ) : Type 0 where
  pub number : IsNumber written
  pub value : value_of written ≡ n

-- one digit
written_digit : (n : ℕ) → n < 10 → IsWritten n ((48 + n) ∷ [])
written_digit n small = record {
  number = (λ e. absurd (cc e), ((omega arith, omega arith), tt));
  value = omega arith;
}

-- one more digit
written_more : (n : ℕ) (front : List ℕ) → 10 ≤ n → IsWritten (n / 10) front
    → IsWritten n (front ++ ((48 + n % 10) ∷ []))
written_more n front large written = record {
  number = (
    append-some front ((48 + n % 10) ∷ []) (λ e. absurd (cc e)),
    push_has IsDigit front (48 + n % 10) written.number.1 (omega arith, omega arith),
  );
  value =
      value_of-append front ((48 + n % 10) ∷ [])
      ∙ omega (arith, written.value);
}

-- a number is written by its digits
pub is_written : (n : ℕ) → n < 2 ^ 64 → IsWritten n (decimal n)
is_written n small = decimal_by_steps IsWritten written_digit written_more n small

-- a digit is no blank
digit_no_blank : (byte : ℕ) → IsDigit byte → ¬ (IsBlank byte)
digit_no_blank byte digit (inl space) = absurd (omega (arith, space, digit.0))
digit_no_blank byte digit (inr tab) = absurd (omega (arith, tab, digit.0))

-- a number is a word
pub number_is_word : (written : List ℕ) → IsNumber written → IsWord written
number_is_word written number =
    (number.0, all_weaker IsDigit (λ b. ¬ (IsBlank b)) written digit_no_blank number.1)
