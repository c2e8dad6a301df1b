use Rattle.std.proofs.Common.{◌≡◌, ◌≢◌, ℕ, ◌≤◌, List, [], ◌∷◌, ◌++◌, length, get_or, map, Ok, Err, refl, sym, ap, inl, inr, ◌⊎◌, ◌∙◌, arith}
use Rattle.std.specs.List.{AllByRecursion}
use Rattle.std.specs.Str.{bytes_eq}
use Rattle.std.proofs.lemmas.Bool.{cases_eq, cases_lt, cases_Bool}
use Rattle.std.proofs.lemmas.Slice.Eq.{bytes_eq-Decides}
use Rattle.std.proofs.lemmas.List.{same_from_push}
use Rattle.wire_commands.specs.declared.forms.Form.{Form}
use Rattle.wire_commands.specs.declared.forms.Form.TheVariants as form
use Rattle.wire_commands.specs.declared.request.Reason.{Reason}
use Rattle.wire_commands.specs.declared.request.Reason.TheVariants.{Long, Empty, Word, Count, Number, Range}
use Rattle.wire_commands.specs.declared.request.Request.{Request}
use Rattle.wire_commands.specs.declared.request.Request.TheVariants.{Get, Put, Remove, Quit, Bad}
use Rattle.wire_commands.specs.Words.{HasWords}
use Rattle.wire_commands.specs.Numbers.{IsDigit, IsNumber, value_of}
use Rattle.wire_commands.specs.Grammar.{keyword_of, limits_of, longest, AreWithin, AreNumbers, Means, IsRequest, DropsReturn, Reads}
use Rattle.wire_commands.specs.Arguments.{FailsFirst}
use Rattle.wire_commands.proofs.GrammarLaws.{form_of_letter, form_of_letter-keyword_of}
use Rattle.wire_commands.proofs.WordLaws.{some_words}
use Rattle.wire_commands.proofs.ReadingLaws.{long_line, empty_line, unknown_word, line_of_form}

-- a list is empty, or has a last element
last_or_none : {X : Type 0} (xs : List X) → (xs ≡ [])
    ⊎ ((front : List X) × (last : X) × (xs ≡ front ++ last ∷ []))
last_or_none [] = inl refl
last_or_none (x ∷ xs) =
    elim (last_or_none xs) [
      | inl none ↦ inr ([], x, ap (λ l. x ∷ l) none)
      | inr some ↦ inr (x ∷ some.0, some.1, ap (λ l. x ∷ l) some.2)
    ]

-- a list with a last element is not empty
not_empty : {X : Type 0} (front : List X) (last : X) → [] ≢ front ++ last ∷ []
not_empty [] last e = absurd (cc e)
not_empty (x ∷ front) last e = absurd (cc e)

-- each line is some line once a return is dropped
pub some_line : (whole : List ℕ) → (line : List ℕ) × DropsReturn whole line
some_line whole =
    elim (last_or_none whole) [
      | inl none ↦ (whole, inr (refl, λ front e. not_empty front 13 (sym none ∙ e)))
      | inr some ↦ elim (cases_eq some.1 13) [
        | inl return ↦ (some.0, inl (some.2 ∙ ap (λ b. some.0 ++ b ∷ []) return))
        | inr other ↦ (
          whole,
          inr
              (refl, λ front e. other (same_from_push some.0 front some.1 13 (sym some.2 ∙ e)).1),
        )
      ]
    ]

-- all elements have a property, or not all
all_or_not : {X : Type 0} (P : X → Type 0) → ((x : X) → P x ⊎ (¬ (P x))) → (xs : List X)
    → AllByRecursion P xs ⊎ (¬ (AllByRecursion P xs))
all_or_not P decide [] = inl tt
all_or_not P decide (x ∷ xs) =
    elim (decide x) [
      | inl here ↦ elim (all_or_not P decide xs) [
        | inl others ↦ inl (here, others)
        | inr not_others ↦ inr (λ all. not_others all.1)
      ]
      | inr not_here ↦ inr (λ all. not_here all.0)
    ]

-- a byte is a digit, or not
digit_or_not : (byte : ℕ) → IsDigit byte ⊎ (¬ (IsDigit byte))
digit_or_not byte =
    elim (cases_lt byte 48) [
      | inl below ↦ inr (λ digit. absurd (omega (arith, digit.0)))
      | inr low ↦ elim (cases_lt 57 byte) [
        | inl above ↦ inr (λ digit. absurd (omega (arith, digit.1)))
        | inr high ↦ inl (low, high)
      ]
    ]

-- a word is a number, or not
number_or_not : (word : List ℕ) → IsNumber word ⊎ (¬ (IsNumber word))
number_or_not [] = inr (λ number. number.0 refl)
number_or_not (byte ∷ bytes) =
    elim (all_or_not IsDigit digit_or_not (byte ∷ bytes)) [
      | inl digits ↦ inl (λ e. absurd (cc e), digits)
      | inr others ↦ inr (λ number. others number.1)
    ]

-- numbers are within their limits, or not
within_or_not : (limits : List ℕ) (words : List (List ℕ)) → AreWithin limits words
    ⊎ (¬ (AreWithin limits words))
within_or_not [] [] = inl tt
within_or_not [] (word ∷ words) = inr (λ within. within)
within_or_not (limit ∷ limits) [] = inr (λ within. within)
within_or_not (limit ∷ limits) (word ∷ words) =
    elim (cases_lt limit (value_of word)) [
      | inl above ↦ inr (λ within. absurd (omega (arith, within.0)))
      | inr here ↦ elim (within_or_not limits words) [
        | inl others ↦ inl (here, others)
        | inr not_others ↦ inr (λ within. not_others within.1)
      ]
    ]

-- words are numbers within limits, or a reason says why not
numbers_or_reason : (limits : List ℕ) (words : List (List ℕ))
    → AreNumbers limits words (map value_of words)
    ⊎ ((reason : Reason) × FailsFirst limits words reason)
numbers_or_reason limits words =
    elim (cases_eq (length words) (length limits)) [
      | inr count ↦ inr (Count, count)
      | inl as_many ↦ elim (all_or_not IsNumber number_or_not words) [
        | inr others ↦ inr (Number, (as_many, others))
        | inl each ↦ elim (within_or_not limits words) [
          | inr above ↦ inr (Range, (as_many, each, above))
          | inl within ↦ inl (record { each = each; within = within; values_are = refl })
        ]
      ]
    ]

-- a form and its numbers are a request
request_of_form : (f : Form) (words : List (List ℕ))
    → AreNumbers (limits_of f) words (map value_of words)
    → (request : Request)
    × ((line : List ℕ) → length line ≤ longest → Means line (keyword_of f ∷ words) request)
request_of_form form.Get [] numbers = absurd numbers.within
request_of_form form.Get (key ∷ []) numbers = (
  Get (value_of key),
  λ line fits. record { fits = fits; others = key ∷ []; keyword = refl; numbers = numbers },
)
request_of_form form.Get (key ∷ word ∷ words) numbers = absurd numbers.within.1
request_of_form form.Put [] numbers = absurd numbers.within
request_of_form form.Put (key ∷ []) numbers = absurd numbers.within.1
request_of_form form.Put (key ∷ value ∷ []) numbers = (
  Put (value_of key) (value_of value),
  λ line fits. record { fits = fits; others = key ∷ value ∷ []; keyword = refl; numbers = numbers },
)
request_of_form form.Put (key ∷ value ∷ word ∷ words) numbers = absurd numbers.within.1.1
request_of_form form.Remove [] numbers = absurd numbers.within
request_of_form form.Remove (key ∷ []) numbers = (
  Remove (value_of key),
  λ line fits. record { fits = fits; others = key ∷ []; keyword = refl; numbers = numbers },
)
request_of_form form.Remove (key ∷ word ∷ words) numbers = absurd numbers.within.1
request_of_form form.Quit [] numbers =
    (Quit, λ line fits. record { fits = fits; others = []; keyword = refl; numbers = numbers })
request_of_form form.Quit (word ∷ words) numbers = absurd numbers.within

-- two texts are the same, or not
same_or_not : (xs ys : List ℕ) → (xs ≡ ys) ⊎ (xs ≢ ys)
same_or_not xs ys =
    elim (cases_Bool (bytes_eq xs ys)) [
      | inl same ↦ inl ((bytes_eq-Decides xs ys).0 same)
      | inr other ↦ inr (λ e. absurd (cc ((bytes_eq-Decides xs ys).1 e)))
    ]

-- a word is a keyword, or none: only the form with its first letter can have it
keyword_or_not : (word : List ℕ) → ((f : Form) × (word ≡ keyword_of f))
    ⊎ ((f : Form) → word ≢ keyword_of f)
keyword_or_not word =
    let only : Form = form_of_letter (get_or word 0 0) in
    elim (same_or_not word (keyword_of only)) [
      | inl same ↦ inl (only, same)
      | inr other ↦ inr (λ f e.
          let is_only : only ≡ f =
          ap (λ w. form_of_letter (get_or w 0 0)) e ∙ form_of_letter-keyword_of f in
          other (e ∙ sym (ap keyword_of is_only)))
    ]

-- each line is a request once a return is dropped
some_meaning : (line : List ℕ) (words : List (List ℕ)) → HasWords line words → length line ≤ longest
    → (request : Request) × IsRequest line request
some_meaning line [] has fits = (Bad Empty, empty_line line fits has)
some_meaning line (word ∷ words) has fits =
    elim (keyword_or_not word) [
      | inr unknown ↦ (Bad Word, unknown_word line word has.0 fits has.1 unknown)
      | inl known ↦ elim (numbers_or_reason (limits_of known.0) words) [
        | inl numbers ↦
            let made = request_of_form known.0 words numbers in (
              made.0,
              line_of_form line word has.0 known.0 (Ok made.0) fits has.1 known.1
                  (words, has.2, made.1),
            )
        | inr fails ↦ (
          Bad fails.0,
          line_of_form line word has.0 known.0 (Err fails.0) fits has.1 known.1
              (words, has.2, fails.1),
        )
      ]
    ]

-- each whole line reads as some request
pub some_request : (whole : List ℕ) → (request : Request) × Reads whole request
some_request whole =
    let dropped = some_line whole in
    let words = some_words dropped.0 in
    let found : (request : Request) × IsRequest dropped.0 request =
    elim (cases_lt longest (length dropped.0)) [
      | inl long ↦ (Bad Long, long_line dropped.0 long)
      | inr fits ↦ some_meaning dropped.0 words.0 words.1 fits
    ] in
    (found.0, record { line = dropped.0; dropped = dropped.1; is_request = found.1 })
