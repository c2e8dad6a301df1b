use Rattle.std.proofs.Common.{◌≡◌, ◌≢◌, ℕ, ◌<◌, ◌≤◌, List, [], ◌∷◌, length, Option, Some, None, Result, Ok, Err, MatchResult, refl, ap, subst, arith}
use Rattle.std.specs.Option.{SomeIff, ok_or, option_zip}
use Rattle.wire_commands.specs.declared.forms.Form.{Form}
use Rattle.wire_commands.specs.declared.request.Reason.{Reason}
use Rattle.wire_commands.specs.declared.request.Reason.TheVariants.{Long, Empty, Word, Count, Number, Range}
use Rattle.wire_commands.specs.declared.request.Request.{Request}
use Rattle.wire_commands.specs.declared.request.Request.TheVariants.{Bad}
use Rattle.wire_commands.specs.Words.{HasWords, BeginsWith}
use Rattle.wire_commands.specs.Numbers.{BeginsWithNumber, IsNumber, value_of}
use Rattle.wire_commands.specs.Grammar.{keyword_of, limits_of, longest, IsRequest}
use Rattle.wire_commands.specs.Arguments.{HasNumbers, LacksNumbers, Completes}
use Rattle.wire_commands.proofs.WordLaws.{some_words}
use Rattle.wire_commands.proofs.GrammarLaws.{first_reason_of_numbers}

-- one word is a number within the limit
pub has_one_number : (line word : List ℕ) (limit : ℕ) → HasWords line (word ∷ []) → IsNumber word
    → value_of word ≤ limit → HasNumbers line (limit ∷ []) (value_of word ∷ [])
has_one_number line word limit has is_number within =
    (word ∷ [], has, record { each = (is_number, tt); within = (within, tt); values_are = refl })

-- the line begins with one number and nothing follows it
pub has_first_number : (line rest : List ℕ) (number limit : ℕ) → BeginsWithNumber line number rest
    → HasWords rest [] → number ≤ limit → HasNumbers line (limit ∷ []) (number ∷ [])
has_first_number line rest number limit first none within = (
  first.word ∷ [],
  (rest, first.begins, none),
  record {
    each = (first.is_number, tt);
    within = (rw first.value_is within, tt);
    values_are = ap (λ (value : ℕ). value ∷ []) first.value_is;
  },
)

-- the line begins with a number, and what follows is another one
pub has_first_numbers : (line more rest : List ℕ) (a b m n : ℕ) → BeginsWithNumber line a more
    → BeginsWithNumber more b rest → HasWords rest [] → a ≤ m → b ≤ n
    → HasNumbers line (m ∷ n ∷ []) (a ∷ b ∷ [])
has_first_numbers line more rest a b m n first second none within_a within_b = (
  first.word ∷ second.word ∷ [],
  (more, first.begins, (rest, second.begins, none)),
  record {
    each = (first.is_number, (second.is_number, tt));
    within = (rw first.value_is within_a, (rw second.value_is within_b, tt));
    values_are = λ i. first.value_is i ∷ second.value_is i ∷ [];
  },
)

-- one word is no number
pub lacks_one_number : (line word : List ℕ) (limit : ℕ) → HasWords line (word ∷ [])
    → ¬ (IsNumber word)
    → LacksNumbers line (limit ∷ []) Number
lacks_one_number line word limit has no_number = (word ∷ [], has, (refl, λ all. no_number all.0))

-- one word is too great a number
pub exceeds_one_limit : (line word : List ℕ) (limit : ℕ) → HasWords line (word ∷ []) → IsNumber word
    → ¬ (value_of word ≤ limit) → LacksNumbers line (limit ∷ []) Range
exceeds_one_limit line word limit has is_number above =
    (word ∷ [], has, (refl, (is_number, tt), λ within. above within.0))

-- two words are numbers within the limits
pub has_two_numbers : (line a b : List ℕ) (m n : ℕ) → HasWords line (a ∷ b ∷ []) → IsNumber a
    → IsNumber b
    → value_of a ≤ m → value_of b ≤ n → HasNumbers line (m ∷ n ∷ []) (value_of a ∷ value_of b ∷ [])
has_two_numbers line a b m n has is_a is_b within_a within_b = (
  a ∷ b ∷ [],
  has,
  record { each = (is_a, (is_b, tt)); within = (within_a, (within_b, tt)); values_are = refl },
)

-- one of two words is no number
pub lacks_two_numbers : (line a b : List ℕ) (m n : ℕ) → HasWords line (a ∷ b ∷ [])
    → ¬ (IsNumber a × IsNumber b) → LacksNumbers line (m ∷ n ∷ []) Number
lacks_two_numbers line a b m n has not_both =
    (a ∷ b ∷ [], has, (refl, λ all. not_both (all.0, all.1.0)))

-- one of two numbers is too great
pub exceeds_two_limits : (line a b : List ℕ) (m n : ℕ) → HasWords line (a ∷ b ∷ []) → IsNumber a
    → IsNumber b
    → ¬ ((value_of a ≤ m) × (value_of b ≤ n)) → LacksNumbers line (m ∷ n ∷ []) Range
exceeds_two_limits line a b m n has is_a is_b above =
    (a ∷ b ∷ [], has, (refl, (is_a, (is_b, tt)), λ within. above (within.0, within.1.0)))

-- what a limit makes of one number
pub within_or_range : (line word : List ℕ) (limit : ℕ) (found : Option ℕ) (result : Result ℕ Reason)
    → HasWords line (word ∷ []) → IsNumber word
    → SomeIff found (value_of word ≤ limit) (value_of word)
    → result ≡ ok_or found Range
    → MatchResult result (λ number. HasNumbers line (limit ∷ []) (number ∷ []))
    (LacksNumbers line (limit ∷ []))
within_or_range line word limit (Some value) result has is_number found e =
    let one = has_one_number line word limit has is_number found.0 in
    rw (e, found.1) one
within_or_range line word limit None result has is_number found e =
    rw e (exceeds_one_limit line word limit has is_number found)

-- what two limits make of two numbers
pub both_within_or_range : (line a b : List ℕ) (m n : ℕ) (first second : Option ℕ)
    (result : Result (ℕ × ℕ) Reason)
    → HasWords line (a ∷ b ∷ []) → IsNumber a → IsNumber b
    → SomeIff first (value_of a ≤ m) (value_of a) → SomeIff second (value_of b ≤ n) (value_of b)
    → result ≡ ok_or (option_zip first second) Range
    → MatchResult result (λ both. HasNumbers line (m ∷ n ∷ []) (both.0 ∷ both.1 ∷ []))
    (LacksNumbers line (m ∷ n ∷ []))
both_within_or_range line a b m n (Some x) (Some y) result has is_a is_b first second e =
    let two = has_two_numbers line a b m n has is_a is_b first.0 second.0 in
    rw (e, first.1, second.1) two
both_within_or_range line a b m n (Some x) None result has is_a is_b first second e =
    rw e (exceeds_two_limits line a b m n has is_a is_b (λ both. second both.1))
both_within_or_range line a b m n None other result has is_a is_b first second e =
    rw e (exceeds_two_limits line a b m n has is_a is_b (λ both. first both.0))

-- a line without a word is empty
pub empty_line : (line : List ℕ) → length line ≤ longest → HasWords line []
    → IsRequest line (Bad Empty)
empty_line line fits has = (
  [],
  has,
  record {
    before = Long ∷ [];
    after = Word ∷ Count ∷ Number ∷ Range ∷ [];
    order = refl;
    none_before = (λ long. absurd (omega arith), tt);
    holds = refl;
  },
)

-- a first word that is no keyword
pub unknown_word : (line word rest : List ℕ) → length line ≤ longest → BeginsWith line word rest
    → ((form : Form) → word ≢ keyword_of form) → IsRequest line (Bad Word)
unknown_word line word rest fits begins unknown =
    let others = some_words rest in (
      word ∷ others.0,
      (rest, begins, others.1),
      record {
        before = Long ∷ Empty ∷ [];
        after = Count ∷ Number ∷ Range ∷ [];
        order = refl;
        none_before = (λ long. absurd (omega arith), (λ none. absurd (cc none), tt));
        holds = λ form more e. unknown form (cc e);
      },
    )

-- a line that is too long
pub long_line : (line : List ℕ) → longest < length line → IsRequest line (Bad Long)
long_line line long =
    let words = some_words line in (
      words.0,
      words.1,
      record {
        before = [];
        after = Empty ∷ Word ∷ Count ∷ Number ∷ Range ∷ [];
        order = refl;
        none_before = tt;
        holds = long;
      },
    )

-- a keyword and what its form makes of the rest
pub line_of_form : (line word rest : List ℕ) (form : Form) (result : Result Request Reason)
    → length line ≤ longest
    → BeginsWith line word rest → word ≡ keyword_of form
    → MatchResult result (Completes form rest) (LacksNumbers rest (limits_of form))
    → MatchResult result (IsRequest line) (λ reason. IsRequest line (Bad reason))
line_of_form line word rest form (Ok request) fits begins e completes = (
  keyword_of form ∷ completes.0,
  (rest, subst (λ w. BeginsWith line w rest) e begins, completes.1),
  completes.2 line fits,
)
line_of_form line word rest form (Err reason) fits begins e lacks = (
  keyword_of form ∷ lacks.0,
  (rest, subst (λ w. BeginsWith line w rest) e begins, lacks.1),
  first_reason_of_numbers form line lacks.0 reason fits lacks.2,
)
