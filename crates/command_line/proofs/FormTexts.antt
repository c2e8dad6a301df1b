-- What clap finds in each plain form of the words, computed once for all options.
use Rattle.std.proofs.Common.{◌≡◌, ◌++◌, ◌+◌, ◌<◌, ◌≤◌, ℕ, zero, suc, List, [], ◌∷◌, Option, Some, codes, map, refl, subst, inl, inr, arith}
use Rattle.std.proofs.lemmas.Bool.{cases_eq}
use Rattle.std.specs.List.{AllByRecursion}
use Rattle.std.specs.Prelude.{if◌then◌else◌}
use Rattle.std.specs.Str.{bytes_eq}
use Rattle.clap.proofs.OnLiterals.{clap_on_literals}
use Rattle.clap.specs.Walk.{Row, Text}
use Rattle.clap.specs.Words.{fault_of, first_of, matches_of}
use Rattle.clap.specs.declared.error.kind.ErrorKind.{ErrorKind}
use Rattle.clap.specs.declared.error.kind.ErrorKind.TheVariants.{ArgumentConflict, MissingRequiredArgument, UnknownArgument}
use Rattle.command_line.specs.Command.{mode_word}
use Rattle.command_line.specs.Forms.{alone, one_word, two_words}
use Rattle.command_line.specs.Grammar.{mix_name, mode_name, options, print_name, the_app}
use Rattle.command_line.specs.declared.answers.Mode.{Mode}
use Rattle.command_line.specs.declared.answers.Mode.TheVariants.{Pipe, Run, Gen}
use Rattle.wire_commands.specs.Numbers.{IsDigit, IsNumber}

-- the faults that clap finds in the words, and the texts that it finds for the mode and for each option
pub record Texts : Type 0 where
  pub faults : List ErrorKind
  pub mode : Option Text
  pub values : List (Option Text)

abbrev texts_in : List ErrorKind → List Row → Texts
texts_in faults rows = record {
  faults = faults;
  mode = first_of mode_name rows;
  values = map (λ option. first_of option.0 rows) options;
}

abbrev pub texts_found : List Text → Texts
texts_found words = texts_in (fault_of the_app words) (matches_of the_app words)

-- no fault, the one mode, and the default of each option but this one
abbrev pub texts_given : Mode → Text → Text → Texts
texts_given mode name value = record {
  faults = [];
  mode = Some (mode_word mode);
  values = map (λ option. Some (if bytes_eq option.0 name then value else option.1)) options;
}

-- the texts of a form that has the mode, the option and its value
abbrev texts_each : (Mode → Text → Text → List Text) → Mode → Text → List Texts
texts_each form mode value = map (λ option. texts_found (form mode option.0 value)) options

abbrev given_each : Mode → Text → List Texts
given_each mode value = map (λ option. texts_given mode option.0 value) options

-- the four forms of an option with its value
abbrev pub after : Mode → Text → Text → List Text
after mode name value = alone mode ++ two_words name value

abbrev pub before : Mode → Text → Text → List Text
before mode name value = two_words name value ++ alone mode

abbrev pub after_in_one_word : Mode → Text → Text → List Text
after_in_one_word mode name value = alone mode ++ one_word name value

abbrev pub before_in_one_word : Mode → Text → Text → List Text
before_in_one_word mode name value = one_word name value ++ alone mode

texts_after_in_one_word : (mode : Mode) (value : Text) → texts_each after_in_one_word mode value ≡ given_each mode value
unfolding the_app clap_on_literals
texts_after_in_one_word Pipe value = refl
texts_after_in_one_word Run value = refl
texts_after_in_one_word Gen value = refl

texts_before_in_one_word : (mode : Mode) (value : Text) → texts_each before_in_one_word mode value ≡ given_each mode value
unfolding the_app clap_on_literals
texts_before_in_one_word Pipe value = refl
texts_before_in_one_word Run value = refl
texts_before_in_one_word Gen value = refl

-- the codes of the ASCII digits
abbrev digits : List ℕ
digits = 48 ∷ 49 ∷ 50 ∷ 51 ∷ 52 ∷ 53 ∷ 54 ∷ 55 ∷ 56 ∷ 57 ∷ []

-- the texts of a form at each first digit
abbrev texts_by_digit : (Mode → Text → Text → List Text) → Mode → Text → List (List Texts)
texts_by_digit form mode rest = map (λ first. texts_each form mode (first ∷ rest)) digits

abbrev given_by_digit : Mode → Text → List (List Texts)
given_by_digit mode rest = map (λ first. given_each mode (first ∷ rest)) digits

-- a word of its own is a value where it begins with no hyphen, and so where it begins with a digit
texts_after : (mode : Mode) (rest : Text) → texts_by_digit after mode rest ≡ given_by_digit mode rest
unfolding the_app clap_on_literals
texts_after Pipe rest = refl
texts_after Run rest = refl
texts_after Gen rest = refl

texts_before : (mode : Mode) (rest : Text) → texts_by_digit before mode rest ≡ given_by_digit mode rest
unfolding the_app clap_on_literals
texts_before Pipe rest = refl
texts_before Run rest = refl
texts_before Gen rest = refl

-- the values that are no numbers, by the names of their options
abbrev pub word_values : List (Text × Text)
word_values =
    (mix_name, codes "a")
    ∷ (mix_name, codes "b")
    ∷ (mix_name, codes "c")
    ∷ (mix_name, codes "d")
    ∷ (mix_name, codes "f")
    ∷ (print_name, codes "trace")
    ∷ (print_name, codes "summary")
    ∷ []

-- the texts of a form at each of these
abbrev texts_by_word : (Mode → Text → Text → List Text) → Mode → List Texts
texts_by_word form mode = map (λ row. texts_found (form mode row.0 row.1)) word_values

abbrev given_by_word : Mode → List Texts
given_by_word mode = map (λ row. texts_given mode row.0 row.1) word_values

words_after : (mode : Mode) → texts_by_word after mode ≡ given_by_word mode
unfolding the_app clap_on_literals
words_after Pipe = refl
words_after Run = refl
words_after Gen = refl

words_before : (mode : Mode) → texts_by_word before mode ≡ given_by_word mode
unfolding the_app clap_on_literals
words_before Pipe = refl
words_before Run = refl
words_before Gen = refl

words_after_in_one : (mode : Mode) → texts_by_word after_in_one_word mode ≡ given_by_word mode
unfolding the_app clap_on_literals
words_after_in_one Pipe = refl
words_after_in_one Run = refl
words_after_in_one Gen = refl

words_before_in_one : (mode : Mode) → texts_by_word before_in_one_word mode ≡ given_by_word mode
unfolding the_app clap_on_literals
words_before_in_one Pipe = refl
words_before_in_one Run = refl
words_before_in_one Gen = refl

-- ---- from the tables to each of their rows

module _ {A B : Type 0} (f g : A → B) where
  pub each_row : (xs : List A) → map f xs ≡ map g xs → AllByRecursion (λ x. f x ≡ g x) xs
  each_row [] is = tt
  each_row (x ∷ xs) is =
      let first : f x ≡ g x = cc in
      let rest : map f xs ≡ map g xs = cc in
      (first, each_row xs rest)

-- what holds of so many numbers from the first on holds of each
abbrev counted : ℕ → ℕ → List ℕ
counted zero first = []
counted (suc count) first = first ∷ counted count (suc first)

at_number : (P : ℕ → Type 0) (count first n : ℕ) → AllByRecursion P (counted count first)
    → first ≤ n → n < first + count → P n
at_number P zero first n all low high = absurd (omega arith)
at_number P (suc count) first n all low high = elim (cases_eq first n) [
  | inl is ↦ subst P is all.0
  | inr other ↦ at_number P count (suc first) n all.1 (omega arith) (omega arith)
]

at_digit : (P : ℕ → Type 0) (digit : ℕ) → AllByRecursion P digits → IsDigit digit → P digit
at_digit P digit all is = at_number P 10 48 digit all is.0 (omega arith)

-- the option may stand anywhere: each of its forms is found
pub record FoundAnywhere (mode : Mode) (name value : Text) : Type 0 where
  pub after : texts_found (after mode name value) ≡ texts_given mode name value
  pub before : texts_found (before mode name value) ≡ texts_given mode name value
  pub after_in_one_word : texts_found (after_in_one_word mode name value) ≡ texts_given mode name value
  pub before_in_one_word : texts_found (before_in_one_word mode name value) ≡ texts_given mode name value

-- the form has the texts of each row, whose option and value these are
module _ {Row : Type 0} (name value : Row → Text) (mode : Mode) where
  abbrev HasTexts : (Mode → Text → Text → List Text) → List Row → Type 0
  HasTexts form table =
      AllByRecursion (λ row. texts_found (form mode (name row) (value row)) ≡ texts_given mode (name row) (value row)) table

  joined : (table : List Row) → HasTexts after table → HasTexts before table → HasTexts after_in_one_word table
      → HasTexts before_in_one_word table → AllByRecursion (λ row. FoundAnywhere mode (name row) (value row)) table
  joined [] a b c d = tt
  joined (row ∷ table) a b c d = (
    record {
      after = a.0;
      before = b.0;
      after_in_one_word = c.0;
      before_in_one_word = d.0;
    },
    joined table a.1 b.1 c.1 d.1,
  )

-- the form has the texts of each option with this value
abbrev HasValue : (Mode → Text → Text → List Text) → Mode → Text → Type 0
HasValue form mode value =
    AllByRecursion (λ option. texts_found (form mode option.0 value) ≡ texts_given mode option.0 value) options

each_option : (form : Mode → Text → Text → List Text) (mode : Mode) (value : Text)
    → texts_each form mode value ≡ given_each mode value → HasValue form mode value
each_option form mode value =
    each_row (λ option. texts_found (form mode option.0 value)) (λ option. texts_given mode option.0 value) options

each_digit : (form : Mode → Text → Text → List Text) (mode : Mode) (rest : Text)
    → texts_by_digit form mode rest ≡ given_by_digit mode rest → (digit : ℕ) → IsDigit digit
    → HasValue form mode (digit ∷ rest)
each_digit form mode rest is digit is_digit = each_option form mode (digit ∷ rest)
    (at_digit (λ first. texts_each form mode (first ∷ rest) ≡ given_each mode (first ∷ rest)) digit
    (each_row (λ first. texts_each form mode (first ∷ rest)) (λ first. given_each mode (first ∷ rest)) digits is)
    is_digit)

-- each option may stand anywhere, with any number
pub found_anywhere : (mode : Mode) (value : Text) → IsNumber value
    → AllByRecursion (λ option. FoundAnywhere mode option.0 value) options
found_anywhere mode [] number = absurd (number.0 refl)
found_anywhere mode (first ∷ rest) number =
    let value : Text = first ∷ rest in
    joined (λ option. option.0) (λ option. value) mode options
    (each_digit after mode rest (texts_after mode rest) first number.1.0)
    (each_digit before mode rest (texts_before mode rest) first number.1.0)
    (each_option after_in_one_word mode value (texts_after_in_one_word mode value))
    (each_option before_in_one_word mode value (texts_before_in_one_word mode value))

each_word : (form : Mode → Text → Text → List Text) (mode : Mode) → texts_by_word form mode ≡ given_by_word mode
    → AllByRecursion (λ row. texts_found (form mode row.0 row.1) ≡ texts_given mode row.0 row.1) word_values
each_word form mode =
    each_row (λ row. texts_found (form mode row.0 row.1)) (λ row. texts_given mode row.0 row.1) word_values

-- so may the others, with each of their words
pub words_anywhere : (mode : Mode) → AllByRecursion (λ row. FoundAnywhere mode row.0 row.1) word_values
words_anywhere mode = joined (λ row. row.0) (λ row. row.1) mode word_values (each_word after mode (words_after mode))
    (each_word before mode (words_before mode)) (each_word after_in_one_word mode (words_after_in_one mode))
    (each_word before_in_one_word mode (words_before_in_one mode))

-- the mode alone has each default
pub texts_alone : (mode : Mode) → texts_found (alone mode) ≡ texts_given mode [] []
unfolding the_app clap_on_literals
texts_alone Pipe = refl
texts_alone Run = refl
texts_alone Gen = refl

-- ---- words that are refused

faults_of_none : (value : Text) → map (λ option. fault_of the_app (one_word option.0 value)) options
    ≡ map (λ option. MissingRequiredArgument ∷ []) options
unfolding the_app clap_on_literals
faults_of_none value = refl

pub no_mode : (value : Text)
    → AllByRecursion (λ option. fault_of the_app (one_word option.0 value) ≡ MissingRequiredArgument ∷ []) options
no_mode value = each_row (λ option. fault_of the_app (one_word option.0 value))
    (λ option. MissingRequiredArgument ∷ []) options (faults_of_none value)

pub two_modes : (one other : Mode) → fault_of the_app (alone one ++ alone other) ≡ UnknownArgument ∷ []
unfolding the_app clap_on_literals
two_modes Pipe Pipe = refl
two_modes Pipe Run = refl
two_modes Pipe Gen = refl
two_modes Run Pipe = refl
two_modes Run Run = refl
two_modes Run Gen = refl
two_modes Gen Pipe = refl
two_modes Gen Run = refl
two_modes Gen Gen = refl

abbrev given_twice : Mode → Text → Text → Text → List Text
given_twice mode one other name = alone mode ++ one_word name one ++ one_word name other

faults_of_two : (mode : Mode) (one other : Text)
    → map (λ option. fault_of the_app (given_twice mode one other option.0)) options
    ≡ map (λ option. ArgumentConflict ∷ []) options
unfolding the_app clap_on_literals
faults_of_two Pipe one other = refl
faults_of_two Run one other = refl
faults_of_two Gen one other = refl

pub two_options : (mode : Mode) (one other : Text)
    → AllByRecursion (λ option. fault_of the_app (given_twice mode one other option.0) ≡ ArgumentConflict ∷ []) options
two_options mode one other = each_row (λ option. fault_of the_app (given_twice mode one other option.0))
    (λ option. ArgumentConflict ∷ []) options (faults_of_two mode one other)
