use Rattle.std.proofs.Common.{◌≡◌, ℕ, ◌+◌, ◌<◌, ◌≤◌, List, [], ◌∷◌, ◌++◌, length, take, drop, get_or, refl, sym, ap, subst, inl, inr, ◌⊎◌, ◌∙◌, arith}
use Rattle.std.proofs.lemmas.List.{drop_more, drop_all, get_or-drop, length-drop, length-take-le, take-append-drop, nil_from_length}
use Rattle.std.specs.List.{AllByRecursion}
use Rattle.std.proofs.lemmas.Bool.{cases_eq, cases_lt}
use Rattle.wire_commands.specs.Words.{IsBlank, IsWord, EndsWord, BeginsWith, HasWords, HasOtherCount}
use Rattle.wire_commands.proofs.Spans.{StopsAt, same_span, second_part_has, take_all_have}

-- a byte is a blank or is none
pub is_blank_or_not : (byte : ℕ) → IsBlank byte ⊎ (¬ (IsBlank byte))
is_blank_or_not byte =
    elim (cases_eq byte 32) [
      | inl space ↦ inl (inl space)
      | inr no_space ↦ elim (cases_eq byte 9) [
        | inl tab ↦ inl (inr tab)
        | inr no_tab ↦ inr (λ blank. elim blank [ inl h ↦ no_space h | inr h ↦ no_tab h ])
      ]
    ]

-- what begins with a word begins with no blank
pub word_stops_blanks : (word rest : List ℕ) → IsWord word → StopsAt IsBlank (word ++ rest)
word_stops_blanks [] rest is_word = absurd (is_word.0 refl)
word_stops_blanks (byte ∷ bytes) rest is_word = is_word.1.0

-- what follows a word begins with no byte of a word
pub end_stops_word : (rest : List ℕ) → EndsWord rest → StopsAt (λ b. ¬ (IsBlank b)) rest
end_stops_word [] ends = tt
end_stops_word (byte ∷ bytes) ends = λ no_blank. no_blank ends

-- a line has one first word only
pub same_first_word : (line word rest other more : List ℕ)
    → BeginsWith line word rest → BeginsWith line other more → (word ≡ other) × (rest ≡ more)
same_first_word line word rest other more a b =
    let same : a.blanks ++ (word ++ rest) ≡ b.blanks ++ (other ++ more) = sym a.line_is
    ∙ b.line_is in
    let after =
    same_span IsBlank a.blanks b.blanks (word ++ rest) (other ++ more) a.all_blank b.all_blank
    (word_stops_blanks word rest a.is_word) (word_stops_blanks other more b.is_word) same in
    same_span (λ byte. ¬ (IsBlank byte)) word other rest more
    a.is_word.1 b.is_word.1
    (end_stops_word rest a.ends) (end_stops_word more b.ends) after.1

-- a line of blanks has no first word
pub no_first_word : (line word rest : List ℕ) → BeginsWith line word rest
    → ¬ (AllByRecursion IsBlank line)
no_first_word line [] rest begins blank = absurd (begins.is_word.0 refl)
no_first_word line (byte ∷ bytes) rest begins blank =
    let all : AllByRecursion IsBlank (begins.blanks ++ (byte ∷ bytes ++ rest)) =
    subst (AllByRecursion IsBlank) begins.line_is blank in
    begins.is_word.1.0 (second_part_has IsBlank begins.blanks (byte ∷ (bytes ++ rest)) all).0

-- the words of a line are one list only
pub same_words : (line : List ℕ) (words others : List (List ℕ))
    → HasWords line words → HasWords line others → words ≡ others
same_words line [] [] a b = refl
same_words line [] (other ∷ others) a b = absurd (no_first_word line other b.0 b.1 a)
same_words line (word ∷ words) [] a b = absurd (no_first_word line word a.0 a.1 b)
same_words line (word ∷ words) (other ∷ others) a b =
    let first = same_first_word line word a.0 other b.0 a.1 b.1 in
    let rest : words ≡ others =
    same_words b.0 words others (subst (λ r. HasWords r words) first.1 a.2) b.2 in cc first.0

-- a blank in front changes no word
pub words_after_blank : (byte : ℕ) (line : List ℕ) (words : List (List ℕ))
    → IsBlank byte → HasWords line words → HasWords (byte ∷ line) words
words_after_blank byte line [] blank has = (blank, has)
words_after_blank byte line (word ∷ words) blank has = (
  has.0,
  record {
    blanks = byte ∷ has.1.blanks;
    line_is = ap (λ l. byte ∷ l) has.1.line_is;
    all_blank = (blank, has.1.all_blank);
    is_word = has.1.is_word;
    ends = has.1.ends;
  },
  has.2,
)

-- one byte is a word
pub letter_is_word : (byte : ℕ) → ¬ (IsBlank byte) → IsWord (byte ∷ [])
letter_is_word byte no_blank = (λ e. absurd (cc e), (no_blank, tt))

-- a byte in front of a word makes the word longer
longer_word : (byte first : ℕ) (line word rest blanks : List ℕ)
    → ¬ (IsBlank byte) → ¬ (IsBlank first) → first ∷ line ≡ blanks ++ (word ++ rest)
    → AllByRecursion IsBlank blanks → IsWord word → EndsWord rest
    → BeginsWith (byte ∷ first ∷ line) (byte ∷ word) rest
longer_word byte first line word rest [] no_blank no_blank' line_is all_blank is_word ends =
    record {
      blanks = [];
      line_is = ap (λ l. byte ∷ l) line_is;
      all_blank = tt;
      is_word = (λ e. absurd (cc e), (no_blank, is_word.1));
      ends = ends;
    }
longer_word byte first line word rest (x ∷ blanks) no_blank no_blank' line_is all_blank is_word
    ends =
    let same : x ≡ first = cc in absurd (no_blank' (subst IsBlank same all_blank.0))

-- a letter in front of a letter
pub words_after_letters : (byte first : ℕ) (line : List ℕ) (words : List (List ℕ))
    → ¬ (IsBlank byte) → ¬ (IsBlank first)
    → HasWords (first ∷ line) words → (more : List (List ℕ)) × HasWords (byte ∷ first ∷ line) more
words_after_letters byte first line [] no_blank no_blank' has = absurd (no_blank' has.0)
words_after_letters byte first line (word ∷ words) no_blank no_blank' has = (
  (byte ∷ word) ∷ words,
  (
    has.0,
    longer_word byte first line word has.0 has.1.blanks no_blank no_blank' has.1.line_is
        has.1.all_blank has.1.is_word has.1.ends,
    has.2,
  ),
)

-- a letter in front of any line
pub words_after_letter : (byte : ℕ) (line : List ℕ) (words : List (List ℕ))
    → ¬ (IsBlank byte) → HasWords line words → (more : List (List ℕ)) × HasWords (byte ∷ line) more
words_after_letter byte [] words no_blank has = (
  (byte ∷ []) ∷ [],
  (
    [],
    record {
      blanks = [];
      line_is = refl;
      all_blank = tt;
      is_word = letter_is_word byte no_blank;
      ends = tt;
    },
    tt,
  ),
)
words_after_letter byte (first ∷ line) words no_blank has =
    elim (is_blank_or_not first) [
      | inl blank ↦ (
        (byte ∷ []) ∷ words,
        (
          first ∷ line,
          record {
            blanks = [];
            line_is = refl;
            all_blank = tt;
            is_word =
                letter_is_word byte no_blank;
            ends = blank;
          },
          has,
        ),
      )
      | inr no_blank' ↦ words_after_letters byte first line words no_blank no_blank' has
    ]

-- each line has words
pub some_words : (line : List ℕ) → (words : List (List ℕ)) × HasWords line words
some_words [] = ([], tt)
some_words (byte ∷ line) =
    let after = some_words line in
    elim (is_blank_or_not byte) [
      | inl blank ↦ (after.0, words_after_blank byte line after.0 blank after.1)
      | inr no_blank ↦ words_after_letter byte line after.0 no_blank after.1
    ]

-- what follows the bytes of a word ends it
pub ends_at : (bytes : List ℕ) (n : ℕ) → n ≤ length bytes
    → (n < length bytes → IsBlank (get_or bytes n 0)) → EndsWord (drop n bytes)
ends_at bytes n within blank =
    elim (cases_lt n (length bytes)) [
      | inl below ↦ subst EndsWord (sym (drop_more bytes n 0 below)) (blank below)
      | inr past ↦ subst EndsWord (sym (drop_all n bytes past)) tt
    ]

-- the first word stands between its first byte, before which all are blanks, and the next blank
pub begins_with_cut : (line after : List ℕ) (start len : ℕ) → after ≡ drop start line
    → start < length line
    → ((k : ℕ) → k < start → IsBlank (get_or line k 0)) → ¬ (IsBlank (get_or line start 0))
    → len ≤ length after → ((k : ℕ) → k < len → ¬ (IsBlank (get_or after k 0)))
    → (len < length after → IsBlank (get_or after len 0))
    → BeginsWith line (take len after) (drop len after)
begins_with_cut line after start len after_is inside blanks first within letters blank =
    let more : 0 < length after = omega (arith, ap length after_is, length-drop start line) in
    let first_is : get_or after 0 0 ≡ get_or line start 0 =
    ap (λ l. get_or l 0 0) after_is ∙ get_or-drop start line 0 0
    ∙ ap (λ k. get_or line k 0) (omega arith) in
    let some : 0 < len = elim (cases_lt 0 len) [
      | inl h ↦ h
      | inr h ↦
          let none : len ≡ 0 = omega arith in
          absurd (first
          (subst IsBlank first_is
          (subst (λ k. IsBlank (get_or after k 0)) none (blank (omega arith)))))
    ] in
    record {
      blanks = take start line;
      line_is =
          sym (take-append-drop start line) ∙ ap (λ l. take start line ++ l) (sym after_is)
          ∙ ap (λ l. take start line ++ l) (sym (take-append-drop len after));
      all_blank = take_all_have IsBlank line 0 start (omega arith) blanks;
      is_word = (
        λ e. absurd (omega (arith, ap length e, length-take-le len after within)),
        take_all_have (λ b. ¬ (IsBlank b)) after 0 len within letters,
      );
      ends = ends_at after len within blank;
    }

-- a line with a word has not no words
pub some_word : (line : List ℕ) → ¬ (HasWords line []) → HasOtherCount line 0
some_word line not_none =
    let found = some_words line in
    (found.0, found.1, λ e. not_none (subst (HasWords line) (nil_from_length found.0 e) found.1))

-- words of the rest are all but the first of the line's
pub other_count_before : (line word rest : List ℕ) (count : ℕ)
    → BeginsWith line word rest → HasOtherCount rest count → HasOtherCount line (count + 1)
other_count_before line word rest count begins other =
    (word ∷ other.0, (rest, begins, other.1), λ e. other.2 (omega (arith, e)))
