-- Plays that are written as lines are read back.
use Rattle.std.proofs.Common.{◌≡◌, ℕ, ◌^◌, ◌<◌, ◌≤◌, List, [], ◌∷◌, ◌++◌, length, codes, refl, sym, ap, inl, ◌∙◌, append_assoc, arith}
use Rattle.std.specs.Fmt.{decimal}
use Rattle.std.specs.List.{AllByRecursion}
use Rattle.std.proofs.lemmas.List.{append-nil, length-append}
use Rattle.wire_commands.specs.declared.request.Request.TheVariants.{Get, Put, Remove}
use Rattle.wire_commands.specs.Words.{HasWords}
use Rattle.wire_commands.specs.Numbers.{IsNumber}
use Rattle.wire_commands.specs.Grammar.{longest}
use Rattle.wire_commands.proofs.WordLaws.{words_after_blank}
use Rattle.trace_text.specs.declared.plays.Play.{Play}
use Rattle.trace_text.specs.declared.plays.Play.TheVariants.{Ask, Hold, Free, Probes, Layout}
use Rattle.trace_text.specs.Laws.{WrittenIsPlayed, WritesPlay}
use Rattle.trace_text.specs.Lines.{IsSkipped, NamesCaller}
use Rattle.trace_text.specs.Plays.{IsPlay}
use Rattle.trace_text.specs.Text.{behind_caller}
use Rattle.trace_text.proofs.DecimalLaws.{is_written, number_is_word}
use Rattle.trace_text.proofs.PlayLaws.{says_play}
use Rattle.trace_text.proofs.WrittenLaws.{IsLetter, IsPrinted, both_have, first_word, get_letters, last_word, length_number, letters_are_word, letters_printed, next_word, not_skipped, number_printed, one_number, one_printed, printed_drops_none, printed_one_line, put_letters, remove_letters, two_numbers, two_printed}

-- a line that begins with a number is not skipped
number_not_skipped : (number rest : List ℕ) → IsNumber number → ¬ (IsSkipped (number ++ rest))
number_not_skipped [] rest is = absurd (is.0 refl)
number_not_skipped (digit ∷ digits) rest is =
    not_skipped digit (digits ++ rest) (omega (arith, is.1.0.0))

-- a caller's number names it
names : (callers caller : ℕ) → caller < callers → caller < 2 ^ 64
    → NamesCaller callers (decimal caller) caller
names callers caller below small = record {
  number = (is_written caller small).number;
  value = (is_written caller small).value;
  below = below;
}

-- a caller's number, and behind it words that make a play
play_written : (callers caller : ℕ) (rest line : List ℕ) (words : List (List ℕ)) (play : Play)
    → caller < 2 ^ 64 → line ≡ rest ++ 10 ∷ [] → AllByRecursion IsPrinted rest
    → length rest ≤ 59 → HasWords (32 ∷ rest) words
    → ((whole : List ℕ) → length whole ≤ longest
    → IsPlay callers whole (decimal caller ∷ words) play)
    → WritesPlay callers (behind_caller caller line) play
play_written callers caller rest line words play small line_is printed short has is =
    let number = (is_written caller small).number in
    let whole = decimal caller ++ 32 ∷ rest in
    let all : AllByRecursion IsPrinted whole =
    both_have IsPrinted (decimal caller) (32 ∷ rest) (number_printed (decimal caller) number)
    (omega arith, printed) in
    let fits : length whole ≤ longest =
    omega (arith, length_number caller small, length-append (decimal caller) (32 ∷ rest), short) in (
      whole,
      printed_one_line whole all,
      ap (λ l. decimal caller ++ 32 ∷ [] ++ l) line_is
          ∙ append_assoc (decimal caller) (32 ∷ []) (rest ++ 10 ∷ [])
          ∙ sym (append_assoc (decimal caller) (32 ∷ rest) (10 ∷ [])),
      says_play callers whole play (number_not_skipped (decimal caller) (32 ∷ rest) number)
          (record {
            line = whole;
            dropped = printed_drops_none whole all;
            fits = fits;
            words = decimal caller ∷ words;
            has = (
              32 ∷ rest,
              record {
                blanks = [];
                line_is = refl;
                all_blank = tt;
                is_word = number_is_word (decimal caller) number;
                ends = inl refl;
              },
              has,
            );
            is_play = is whole fits;
          }),
    )

-- one word behind a blank
one_word : (first : ℕ) (letters : List ℕ) → AllByRecursion IsLetter (first ∷ letters)
    → HasWords (32 ∷ first ∷ letters) ((first ∷ letters) ∷ [])
one_word first letters all = (
  [],
  record {
    blanks = 32 ∷ [];
    line_is = ap (λ l. 32 ∷ l) (sym (append-nil (first ∷ letters)));
    all_blank = (inl refl, tt);
    is_word = letters_are_word first letters all;
    ends = tt;
  },
  tt,
)

-- the letters of the deeds' words
hold_letters : AllByRecursion IsLetter (codes "hold")
hold_letters = (omega arith, (omega arith, (omega arith, (omega arith, tt))))

free_letters : AllByRecursion IsLetter (codes "free")
free_letters = (omega arith, (omega arith, (omega arith, (omega arith, tt))))

probes_letters : AllByRecursion IsLetter (codes "probes")
probes_letters =
    (omega arith, (omega arith, (omega arith, (omega arith, (omega arith, (omega arith, tt))))))

layout_letters : AllByRecursion IsLetter (codes "layout")
layout_letters =
    (omega arith, (omega arith, (omega arith, (omega arith, (omega arith, (omega arith, tt))))))

-- the layout is asked for by its word
layout_written : (callers : ℕ) → WritesPlay callers (codes "layout\n") Layout
layout_written callers =
    let printed = letters_printed (codes "layout") layout_letters in (
      codes "layout",
      printed_one_line (codes "layout") printed,
      refl,
      (
        not_skipped 108 (codes "ayout") (omega arith),
        record {
          line = codes "layout";
          dropped = printed_drops_none (codes "layout") printed;
          fits = omega arith;
          words = codes "layout" ∷ [];
          has = (
            [],
            record {
              blanks = [];
              line_is = refl;
              all_blank = tt;
              is_word = letters_are_word 108 (codes "ayout") layout_letters;
              ends = tt;
            },
            tt,
          );
          is_play = refl;
        },
      ),
    )

-- what is written of a caller's plays is read as these
pub written_is_played : (callers caller : ℕ) → caller < callers → caller < 2 ^ 64
    → WrittenIsPlayed callers caller
written_is_played callers caller below small =
    let of = names callers caller below small in
    record {
      get = λ key key_small.
          let rest = codes "get" ++ 32 ∷ decimal key in
          let words = codes "get" ∷ decimal key ∷ [] in
          play_written callers caller rest (rest ++ 10 ∷ []) words (Ask caller (Get key)) small refl
          (one_printed (codes "get") key key_small get_letters)
          (omega (arith, length_number key key_small))
          (words_after_blank 32 rest words (inl refl)
          (first_word 103 (codes "et") (decimal key) (decimal key ∷ []) get_letters
          (last_word (decimal key) (is_written key key_small).number)))
          (λ whole fits. (
            words,
            (decimal caller, refl, of),
            record {
              fits = fits;
              others = decimal key ∷ [];
              keyword = refl;
              numbers = one_number key key_small;
            },
            tt,
          ));
      put = λ key value key_small value_small.
          let numbers = decimal key ++ 32 ∷ decimal value in
          let rest = codes "put" ++ 32 ∷ numbers in
          let words = codes "put" ∷ decimal key ∷ decimal value ∷ [] in
          play_written callers caller rest _ words (Ask caller (Put key value)) small
          (ap (λ l. codes "put" ++ 32 ∷ l ++ 10 ∷ [])
          (append_assoc (decimal key) (32 ∷ []) (decimal value)))
          (two_printed (codes "put") key value key_small value_small put_letters)
          (omega (
            arith,
            length_number key key_small,
            length_number value value_small,
            length-append (decimal key) (32 ∷ decimal value),
          ))
          (words_after_blank 32 rest words (inl refl)
          (first_word 112 (codes "ut") numbers (decimal key ∷ decimal value ∷ []) put_letters
          (next_word (decimal key) (decimal value) (decimal value ∷ []) (is_written key key_small).number
          (last_word (decimal value) (is_written value value_small).number))))
          (λ whole fits. (
            words,
            (decimal caller, refl, of),
            record {
              fits = fits;
              others = decimal key ∷ decimal value ∷ [];
              keyword = refl;
              numbers = two_numbers key value key_small value_small;
            },
            tt,
          ));
      remove = λ key key_small.
          let rest = codes "remove" ++ 32 ∷ decimal key in
          let words = codes "remove" ∷ decimal key ∷ [] in
          play_written callers caller rest (rest ++ 10 ∷ []) words (Ask caller (Remove key)) small refl
          (one_printed (codes "remove") key key_small remove_letters)
          (omega (arith, length_number key key_small))
          (words_after_blank 32 rest words (inl refl)
          (first_word 114 (codes "emove") (decimal key) (decimal key ∷ []) remove_letters
          (last_word (decimal key) (is_written key key_small).number)))
          (λ whole fits. (
            words,
            (decimal caller, refl, of),
            record {
              fits = fits;
              others = decimal key ∷ [];
              keyword = refl;
              numbers = one_number key key_small;
            },
            tt,
          ));
      hold =
          play_written callers caller (codes "hold") (codes "hold\n") (codes "hold" ∷ []) (Hold caller)
          small refl (letters_printed (codes "hold") hold_letters) (omega arith)
          (one_word 104 (codes "old") hold_letters) (λ whole fits. (decimal caller, refl, of));
      free =
          play_written callers caller (codes "free") (codes "free\n") (codes "free" ∷ []) (Free caller)
          small refl (letters_printed (codes "free") free_letters) (omega arith)
          (one_word 102 (codes "ree") free_letters) (λ whole fits. (decimal caller, refl, of));
      probes =
          play_written callers caller (codes "probes") (codes "probes\n") (codes "probes" ∷ [])
          (Probes caller) small refl (letters_printed (codes "probes") probes_letters) (omega arith)
          (one_word 112 (codes "robes") probes_letters) (λ whole fits. (decimal caller, refl, of));
      layout = layout_written callers;
    }
