-- Lines that are written of a keyword and numbers are read back.
use Rattle.std.proofs.Common.{◌≡◌, ◌≢◌, ℕ, ◌^◌, ◌<◌, ◌≤◌, List, [], ◌∷◌, ◌++◌, length, codes, refl, sym, ap, subst, inl, inr, ◌∙◌, append_assoc, arith}
use Rattle.std.specs.Fmt.{decimal}
use Rattle.std.specs.List.{AllByRecursion}
use Rattle.std.proofs.lemmas.Fmt.{length-decimal-le}
use Rattle.std.proofs.lemmas.List.{append-nil, length-append}
use Rattle.wire_commands.specs.declared.request.Request.TheVariants.{Get, Put, Remove}
use Rattle.wire_commands.specs.Words.{IsBlank, IsWord, HasWords}
use Rattle.wire_commands.specs.Numbers.{IsDigit, IsNumber, value_of}
use Rattle.wire_commands.specs.Stream.{HasNoNewline}
use Rattle.wire_commands.specs.Grammar.{greatest_number, longest, AreNumbers, DropsReturn}
use Rattle.wire_commands.proofs.Spans.{second_part_has}
use Rattle.trace_text.specs.declared.lines.Line.TheVariants.{Phase, Caller, Call}
use Rattle.trace_text.specs.Lines.{IsSkipped, Fits, Says}
use Rattle.trace_text.specs.Laws.{WrittenIsRead}
use Rattle.trace_text.proofs.DecimalLaws.{all_weaker, is_written, number_is_word}

-- both parts have a property
pub both_have : {X : Type 0} (P : X → Type 0) (xs ys : List X) → AllByRecursion P xs
    → AllByRecursion P ys → AllByRecursion P (xs ++ ys)
both_have P [] ys front back = back
both_have P (x ∷ xs) ys front back = (front.0, both_have P xs ys front.1 back)

-- a byte that is printed
abbrev pub IsPrinted : ℕ → Type 0
IsPrinted byte = 32 ≤ byte

-- a small letter
abbrev pub IsLetter : ℕ → Type 0
IsLetter byte = 97 ≤ byte

-- a letter is no blank
letter_no_blank : (byte : ℕ) → IsLetter byte → ¬ (IsBlank byte)
letter_no_blank byte letter (inl space) = absurd (omega (arith, space, letter))
letter_no_blank byte letter (inr tab) = absurd (omega (arith, tab, letter))

-- letters are a word
pub letters_are_word : (first : ℕ) (letters : List ℕ) → AllByRecursion IsLetter (first ∷ letters)
    → IsWord (first ∷ letters)
letters_are_word first letters all =
    (λ e. absurd (cc e), all_weaker IsLetter (λ b. ¬ (IsBlank b)) (first ∷ letters) letter_no_blank all)

-- letters are printed
pub letters_printed : (letters : List ℕ) → AllByRecursion IsLetter letters
    → AllByRecursion IsPrinted letters
letters_printed letters all = all_weaker IsLetter IsPrinted letters (λ b letter. omega (arith, letter)) all

-- a number is printed
pub number_printed : (written : List ℕ) → IsNumber written → AllByRecursion IsPrinted written
number_printed written number =
    all_weaker IsDigit IsPrinted written (λ b digit. omega (arith, digit.0)) number.1

-- what is printed has no newline
pub printed_one_line : (whole : List ℕ) → AllByRecursion IsPrinted whole → HasNoNewline whole
printed_one_line whole printed =
    all_weaker IsPrinted (λ b. b ≢ 10) whole (λ b is e. absurd (omega (arith, is, e))) printed

-- what is printed ends in no carriage return
pub printed_drops_none : (whole : List ℕ) → AllByRecursion IsPrinted whole → DropsReturn whole whole
printed_drops_none whole printed =
    inr (
      refl,
      λ front e.
          let last : AllByRecursion IsPrinted (13 ∷ []) =
          second_part_has IsPrinted front (13 ∷ []) (subst (AllByRecursion IsPrinted) e printed) in
          absurd (omega (arith, last.0)),
    )

-- what is behind the sign of a comment is no blank
above_no_blank : (byte : ℕ) → 36 ≤ byte → ¬ (IsBlank byte)
above_no_blank byte above (inl space) = absurd (omega (arith, space, above))
above_no_blank byte above (inr tab) = absurd (omega (arith, tab, above))

-- a line that begins with such a byte has a word
not_blank : (first : ℕ) (rest line : List ℕ) → 36 ≤ first → DropsReturn (first ∷ rest) line
    → ¬ (AllByRecursion IsBlank line)
not_blank first rest [] above (inl e) blank = let same : first ≡ 13 = cc in absurd (omega arith)
not_blank first rest [] above (inr e) blank = let none = e.0 in absurd (cc none)
not_blank first rest (x ∷ xs) above (inl e) blank =
    let same : first ≡ x = cc in above_no_blank x (subst (λ b. 36 ≤ b) same above) blank.0
not_blank first rest (x ∷ xs) above (inr e) blank =
    let whole = e.0 in
    let same : first ≡ x = cc in above_no_blank x (subst (λ b. 36 ≤ b) same above) blank.0

-- nor is it skipped
pub not_skipped : (first : ℕ) (rest : List ℕ) → 36 ≤ first → ¬ (IsSkipped (first ∷ rest))
not_skipped first rest above (inl hash) =
    let is = hash.1 in
    let same : first ≡ 35 = cc in absurd (omega arith)
not_skipped first rest above (inr has) = not_blank first rest has.line above has.dropped has.has

-- a short line fits
fits_short : (whole : List ℕ) → length whole ≤ longest → Fits whole
fits_short whole short line (inl e) = omega (arith, ap length e, length-append line (13 ∷ []))
fits_short whole short line (inr e) = omega (arith, ap length e.0)

-- a number at the end of a line
pub last_word : (written : List ℕ) → IsNumber written → HasWords (32 ∷ written) (written ∷ [])
last_word written number = (
  [],
  record {
    blanks = 32 ∷ [];
    line_is = ap (λ l. 32 ∷ l) (sym (append-nil written));
    all_blank = (inl refl, tt);
    is_word = number_is_word written number;
    ends = tt;
  },
  tt,
)

-- a number before another one
pub next_word : (written rest : List ℕ) (words : List (List ℕ)) → IsNumber written
    → HasWords (32 ∷ rest) words → HasWords (32 ∷ (written ++ 32 ∷ rest)) (written ∷ words)
next_word written rest words number has = (
  32 ∷ rest,
  record {
    blanks = 32 ∷ [];
    line_is = refl;
    all_blank = (inl refl, tt);
    is_word = number_is_word written number;
    ends = inl refl;
  },
  has,
)

-- a keyword before numbers
pub first_word : (first : ℕ) (letters rest : List ℕ) (words : List (List ℕ))
    → AllByRecursion IsLetter (first ∷ letters) → HasWords (32 ∷ rest) words
    → HasWords (first ∷ (letters ++ 32 ∷ rest)) ((first ∷ letters) ∷ words)
first_word first letters rest words all has = (
  32 ∷ rest,
  record {
    blanks = [];
    line_is = refl;
    all_blank = tt;
    is_word = letters_are_word first letters all;
    ends = inl refl;
  },
  has,
)

-- one number is within its limit
pub one_number : (n : ℕ) → n < 2 ^ 64 → AreNumbers (greatest_number ∷ []) (decimal n ∷ []) (n ∷ [])
one_number n small =
    let written = is_written n small in
    record {
      each = (written.number, tt);
      within = (omega (arith, written.value), tt);
      values_are = ap (λ v. v ∷ []) written.value;
    }

-- two numbers are within their limits
pub two_numbers : (m n : ℕ) → m < 2 ^ 64 → n < 2 ^ 64
    → AreNumbers (greatest_number ∷ greatest_number ∷ []) (decimal m ∷ decimal n ∷ []) (m ∷ n ∷ [])
two_numbers m n m_small n_small =
    let first = is_written m m_small in
    let second = is_written n n_small in
    record {
      each = (first.number, (second.number, tt));
      within = (omega (arith, first.value), (omega (arith, second.value), tt));
      values_are =
          ap (λ v. v ∷ value_of (decimal n) ∷ []) first.value ∙ ap (λ v. m ∷ v ∷ []) second.value;
    }

-- a keyword and a number are printed
pub one_printed : (letters : List ℕ) (n : ℕ) → n < 2 ^ 64 → AllByRecursion IsLetter letters
    → AllByRecursion IsPrinted (letters ++ 32 ∷ decimal n)
one_printed letters n small all =
    both_have IsPrinted letters (32 ∷ decimal n) (letters_printed letters all)
    (omega arith, number_printed (decimal n) (is_written n small).number)

-- the letters of the keywords
pub get_letters : AllByRecursion IsLetter (codes "get")
get_letters = (omega arith, (omega arith, (omega arith, tt)))

pub put_letters : AllByRecursion IsLetter (codes "put")
put_letters = (omega arith, (omega arith, (omega arith, tt)))

pub remove_letters : AllByRecursion IsLetter (codes "remove")
remove_letters =
    (omega arith, (omega arith, (omega arith, (omega arith, (omega arith, (omega arith, tt))))))

caller_letters : AllByRecursion IsLetter (codes "caller")
caller_letters =
    (omega arith, (omega arith, (omega arith, (omega arith, (omega arith, (omega arith, tt))))))

phase_letters : AllByRecursion IsLetter (codes "phase")
phase_letters = (omega arith, (omega arith, (omega arith, (omega arith, (omega arith, tt)))))

-- a number has at most 20 digits
pub length_number : (n : ℕ) → n < 2 ^ 64 → length (decimal n) ≤ 20
length_number n small = length-decimal-le 20 n (omega arith) (omega arith) small

-- a get is read as one
get_says : (callers key : ℕ) → key < 2 ^ 64 → Says callers (codes "get" ++ 32 ∷ decimal key) (Call (Get key))
get_says callers key small =
    let whole = codes "get" ++ 32 ∷ decimal key in (
      not_skipped 103 (codes "et" ++ 32 ∷ decimal key) (omega arith),
      record {
        line = whole;
        dropped = printed_drops_none whole (one_printed (codes "get") key small get_letters);
        is_request = (
          codes "get" ∷ decimal key ∷ [],
          first_word 103 (codes "et") (decimal key) (decimal key ∷ []) get_letters
              (last_word (decimal key) (is_written key small).number),
          record {
            fits = omega (arith, length_number key small);
            others = decimal key ∷ [];
            keyword = refl;
            numbers = one_number key small;
          },
        );
      },
      tt,
    )

-- a remove is read as one
remove_says : (callers key : ℕ) → key < 2 ^ 64 → Says callers (codes "remove" ++ 32 ∷ decimal key) (Call (Remove key))
remove_says callers key small =
    let whole = codes "remove" ++ 32 ∷ decimal key in (
      not_skipped 114 (codes "emove" ++ 32 ∷ decimal key) (omega arith),
      record {
        line = whole;
        dropped = printed_drops_none whole (one_printed (codes "remove") key small remove_letters);
        is_request = (
          codes "remove" ∷ decimal key ∷ [],
          first_word 114 (codes "emove") (decimal key) (decimal key ∷ []) remove_letters
              (last_word (decimal key) (is_written key small).number),
          record {
            fits = omega (arith, length_number key small);
            others = decimal key ∷ [];
            keyword = refl;
            numbers = one_number key small;
          },
        );
      },
      tt,
    )

-- a keyword and two numbers are printed
pub two_printed : (letters : List ℕ) (m n : ℕ) → m < 2 ^ 64 → n < 2 ^ 64
    → AllByRecursion IsLetter letters
    → AllByRecursion IsPrinted (letters ++ 32 ∷ (decimal m ++ 32 ∷ decimal n))
two_printed letters m n m_small n_small all =
    both_have IsPrinted letters (32 ∷ (decimal m ++ 32 ∷ decimal n)) (letters_printed letters all) (
      omega arith,
      both_have IsPrinted (decimal m) (32 ∷ decimal n)
          (number_printed (decimal m) (is_written m m_small).number)
          (omega arith, number_printed (decimal n) (is_written n n_small).number),
    )

-- a put is read as one
put_says : (callers key value : ℕ) → key < 2 ^ 64 → value < 2 ^ 64
    → Says callers (codes "put" ++ 32 ∷ (decimal key ++ 32 ∷ decimal value)) (Call (Put key value))
put_says callers key value small value_small =
    let rest = decimal key ++ 32 ∷ decimal value in
    let whole = codes "put" ++ 32 ∷ rest in (
      not_skipped 112 (codes "ut" ++ 32 ∷ rest) (omega arith),
      record {
        line = whole;
        dropped = printed_drops_none whole (two_printed (codes "put") key value small value_small put_letters);
        is_request = (
          codes "put" ∷ decimal key ∷ decimal value ∷ [],
          first_word 112 (codes "ut") rest (decimal key ∷ decimal value ∷ []) put_letters
              (next_word (decimal key) (decimal value) (decimal value ∷ []) (is_written key small).number
              (last_word (decimal value) (is_written value value_small).number)),
          record {
            fits = omega (
              arith,
              length_number key small,
              length_number value value_small,
              length-append (decimal key) (32 ∷ decimal value),
            );
            others = decimal key ∷ decimal value ∷ [];
            keyword = refl;
            numbers = two_numbers key value small value_small;
          },
        );
      },
      tt,
    )

-- a caller's mark is read as one
caller_says : (callers caller : ℕ) → caller < callers → caller < 2 ^ 64
    → Says callers (codes "caller" ++ 32 ∷ decimal caller) (Caller caller)
caller_says callers caller below small =
    let whole = codes "caller" ++ 32 ∷ decimal caller in (
      not_skipped 99 (codes "aller" ++ 32 ∷ decimal caller) (omega arith),
      fits_short whole (omega (arith, length_number caller small)),
      (
        decimal caller,
        record {
          line = whole;
          dropped = printed_drops_none whole (one_printed (codes "caller") caller small caller_letters);
          has = first_word 99 (codes "aller") (decimal caller) (decimal caller ∷ []) caller_letters
              (last_word (decimal caller) (is_written caller small).number);
        },
        record {
          number = (is_written caller small).number;
          value = (is_written caller small).value;
          below = below;
        },
      ),
    )

-- a phase's mark is read as one
phase_says : (callers : ℕ) → Says callers (codes "phase") Phase
phase_says callers = (
  not_skipped 112 (codes "hase") (omega arith),
  fits_short (codes "phase") (omega arith),
  record {
    line = codes "phase";
    dropped = printed_drops_none (codes "phase") (letters_printed (codes "phase") phase_letters);
    has = (
      [],
      record {
        blanks = [];
        line_is = refl;
        all_blank = tt;
        is_word = letters_are_word 112 (codes "hase") phase_letters;
        ends = tt;
      },
      tt,
    );
  },
)

-- what is written is read
pub written_is_read : (callers : ℕ) → WrittenIsRead callers
written_is_read callers = record {
  phase =
      let printed = letters_printed (codes "phase") phase_letters in
      (codes "phase", printed_one_line (codes "phase") printed, refl, phase_says callers);
  caller = λ caller below small.
      let whole = codes "caller" ++ 32 ∷ decimal caller in
      let printed = one_printed (codes "caller") caller small caller_letters in
      (whole, printed_one_line whole printed, refl, caller_says callers caller below small);
  get = λ key small.
      let whole = codes "get" ++ 32 ∷ decimal key in
      let printed = one_printed (codes "get") key small get_letters in
      (whole, printed_one_line whole printed, refl, get_says callers key small);
  put = λ key value small value_small.
      let whole = codes "put" ++ 32 ∷ (decimal key ++ 32 ∷ decimal value) in
      let printed = two_printed (codes "put") key value small value_small put_letters in (
        whole,
        printed_one_line whole printed,
        ap (λ l. codes "put" ++ 32 ∷ l ++ 10 ∷ [])
            (append_assoc (decimal key) (32 ∷ []) (decimal value)),
        put_says callers key value small value_small,
      );
  remove = λ key small.
      let whole = codes "remove" ++ 32 ∷ decimal key in
      let printed = one_printed (codes "remove") key small remove_letters in
      (whole, printed_one_line whole printed, refl, remove_says callers key small);
}
