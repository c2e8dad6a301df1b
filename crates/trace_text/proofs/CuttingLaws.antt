-- A text line by line: what has been read of it so far, and that it has one list of lines.
use Rattle.std.proofs.Common.{◌≡◌, ◌≢◌, ℕ, ◌+◌, Bool, List, [], ◌∷◌, ◌++◌, length, refl, sym, ap, subst, inl, inr, ◌∙◌, append_assoc}
use Rattle.std.specs.List.{AllByRecursion, AllZip, filter}
use Rattle.std.proofs.lemmas.Bool.{cases_eq}
use Rattle.std.proofs.lemmas.List.{append-nil, length_push}
use Rattle.std.proofs.lemmas.List.Elements.{filter-append}
use Rattle.wire_commands.specs.Stream.{HasNoNewline}
use Rattle.wire_commands.proofs.Spans.{same_span, second_part_has}
use Rattle.trace_text.specs.TextLines.{CutsLine, HasFirstBadLine, HasLines, Left, LinesTell, TakesLine}
use Rattle.trace_text.specs.Laws.{TextsHaveLines}

-- what has been read of a text: its first lines, which say this, before what is left
pub record HasRead {Said : Type 0} (Says : List ℕ → Said → Type 0) (is_told : Said → Bool)
    (text : List ℕ) (left : Left) (told : List Said) : Type 0 where
  pub lines : List (List ℕ)
  pub said : List Said
  pub cut : (more : List (List ℕ)) → HasLines left.rest more → HasLines text (lines ++ more)
  pub each : AllZip Says lines said
  pub told_are : told ≡ filter is_told said
  pub counted : left.number ≡ length lines

-- nothing has been read
pub read_nothing : {Said : Type 0} (Says : List ℕ → Said → Type 0) (is_told : Said → Bool)
    (text : List ℕ) → HasRead Says is_told text (record { rest = text; number = 0 }) []
read_nothing Says is_told text = record {
  lines = [];
  said = [];
  cut = λ more has. has;
  each = tt;
  told_are = refl;
  counted = refl;
}

-- one more pair that stands in the relation
zip_push : {X Y : Type 0} (R : X → Y → Type 0) (xs : List X) (ys : List Y) (x : X) (y : Y)
    → AllZip R xs ys → R x y → AllZip R (xs ++ x ∷ []) (ys ++ y ∷ [])
zip_push R [] [] x y all here = (here, tt)
zip_push R [] (z ∷ ys) x y all here = absurd all
zip_push R (z ∷ xs) [] x y all here = absurd all
zip_push R (z ∷ xs) (w ∷ ys) x y all here = (all.0, zip_push R xs ys x y all.1 here)

-- one more line moves from the rest to the front
cut_more : (text rest line more : List ℕ) (lines : List (List ℕ)) → CutsLine rest line more
    → ((others : List (List ℕ)) → HasLines rest others → HasLines text (lines ++ others))
    → (others : List (List ℕ)) → HasLines more others
    → HasLines text (lines ++ line ∷ [] ++ others)
cut_more text rest line more lines cuts cut others has =
    subst (HasLines text) (sym (append_assoc lines (line ∷ []) others))
    (cut (line ∷ others) (more, cuts, has))

-- one more line was read
pub read_more : {Said : Type 0} (Says : List ℕ → Said → Type 0) (is_told : Said → Bool)
    (text line : List ℕ) (old new : Left) (told : List Said) (one : Said)
    → HasRead Says is_told text old told → TakesLine old line new → Says line one
    → HasRead Says is_told text new (told ++ filter is_told (one ∷ []))
read_more Says is_told text line old new told one read takes says = record {
  lines = read.lines ++ line ∷ [];
  said = read.said ++ one ∷ [];
  cut = cut_more text old.rest line new.rest read.lines takes.cuts read.cut;
  each = zip_push Says read.lines read.said line one read.each says;
  told_are =
      ap (λ l. l ++ filter is_told (one ∷ [])) read.told_are
      ∙ sym (filter-append is_told read.said (one ∷ []));
  counted =
      takes.counted ∙ ap (λ (n : ℕ). n + 1) read.counted ∙ sym (length_push read.lines line);
}

-- the whole text was read
pub read_all : {Said : Type 0} (Says : List ℕ → Said → Type 0) (is_told : Said → Bool)
    (text : List ℕ) (left : Left) (told : List Said)
    → HasRead Says is_told text left told → left.rest ≡ [] → LinesTell Says is_told text told
read_all Says is_told text left told read none = record {
  lines = read.lines;
  cut = subst (HasLines text) (append-nil read.lines) (read.cut [] none);
  said = read.said;
  each = read.each;
  told_are = read.told_are;
}

-- a byte that is no newline makes the first line longer, or is a line
lines_after_byte : (byte : ℕ) (text : List ℕ) (lines : List (List ℕ)) → byte ≢ 10
    → HasLines text lines → (more : List (List ℕ)) × HasLines (byte ∷ text) more
lines_after_byte byte text [] other none = (
  (byte ∷ []) ∷ [],
  (
    [],
    record {
      whole = (other, tt);
      cut = inr (ap (λ l. byte ∷ l) none, (λ e. absurd (cc e)), refl);
    },
    refl,
  ),
)
lines_after_byte byte text (line ∷ lines) other has = (
  (byte ∷ line) ∷ lines,
  (
    has.0,
    record {
      whole = (other, has.1.whole);
      cut = elim has.1.cut [
        | inl ends ↦ inl (ap (λ l. byte ∷ l) ends)
        | inr last ↦ inr (ap (λ l. byte ∷ l) last.0, (λ e. absurd (cc e)), last.2)
      ];
    },
    has.2,
  ),
)

-- each text has lines
pub some_lines : (text : List ℕ) → (lines : List (List ℕ)) × HasLines text lines
some_lines [] = ([], refl)
some_lines (byte ∷ text) =
    let after = some_lines text in
    elim (cases_eq byte 10) [
      | inl newline ↦ (
        [] ∷ after.0,
        (text, record { whole = tt; cut = inl (ap (λ b. b ∷ text) newline) }, after.1),
      )
      | inr other ↦ lines_after_byte byte text after.0 other after.1
    ]

-- what a list of pairs has on its left, its left list has
all_good : {Said : Type 0} (Says : List ℕ → Said → Type 0) (lines : List (List ℕ))
    (said : List Said)
    → AllZip Says lines said → AllByRecursion (λ line. (s : Said) × Says line s) lines
all_good Says [] said all = tt
all_good Says (line ∷ lines) [] all = absurd all
all_good Says (line ∷ lines) (one ∷ said) all = ((one, all.0), all_good Says lines said all.1)

-- a bad line was met
pub read_bad : {Said : Type 0} (Says : List ℕ → Said → Type 0) (is_told : Said → Bool)
    (text line : List ℕ) (old new : Left) (told : List Said)
    → HasRead Says is_told text old told → TakesLine old line new
    → ((said : Said) → ¬ (Says line said)) → HasFirstBadLine Says text new.number
read_bad Says is_told text line old new told read takes bad =
    let after = some_lines new.rest in
    record {
      before = read.lines;
      bad = line;
      after = after.0;
      cut = read.cut (line ∷ after.0) (new.rest, takes.cuts, after.1);
      good = all_good Says read.lines read.said read.each;
      is_bad = bad;
      counted = takes.counted ∙ ap (λ (n : ℕ). n + 1) read.counted;
    }

-- a whole line has no newline in it
no_newline_inside : (line rest other : List ℕ) → other ≡ line ++ 10 ∷ rest → ¬ (HasNoNewline other)
no_newline_inside line rest other is = λ whole.
    (second_part_has (λ c. c ≢ 10) line (10 ∷ rest) (subst HasNoNewline is whole)).0 refl

-- a text begins with one line only
same_cut : (text line rest other more : List ℕ) → CutsLine text line rest
    → CutsLine text other more → (line ≡ other) × (rest ≡ more)
same_cut text line rest other more a b =
    elim a.cut [
      | inl ends ↦ elim b.cut [
        | inl ends' ↦
            let span =
            same_span (λ c. c ≢ 10) line other (10 ∷ rest) (10 ∷ more) a.whole b.whole
            (λ h. h refl) (λ h. h refl) (sym ends ∙ ends') in
            (span.0, cc span.1)
        | inr last ↦ absurd (no_newline_inside line rest other (sym last.0 ∙ ends) b.whole)
      ]
      | inr last ↦ elim b.cut [
        | inl ends ↦ absurd (no_newline_inside other more line (sym last.0 ∙ ends) a.whole)
        | inr last' ↦ (sym last.0 ∙ last'.0, last.2 ∙ sym last'.2)
      ]
    ]

-- no text without bytes begins with a line
no_line_of_nothing : (line rest : List ℕ) → ¬ (CutsLine [] line rest)
no_line_of_nothing [] rest = λ cuts.
    elim cuts.cut [ inl ends ↦ absurd (cc ends) | inr last ↦ last.1 refl ]
no_line_of_nothing (byte ∷ line) rest = λ cuts.
    elim cuts.cut [ inl ends ↦ absurd (cc ends) | inr last ↦ absurd (cc last.0) ]

-- the lines of a text are one list only
pub same_lines : (text : List ℕ) (lines others : List (List ℕ)) → HasLines text lines
    → HasLines text others → lines ≡ others
same_lines text [] [] a b = refl
same_lines text [] (other ∷ others) a b =
    absurd (no_line_of_nothing other b.0 (subst (λ t. CutsLine t other b.0) a b.1))
same_lines text (line ∷ lines) [] a b =
    absurd (no_line_of_nothing line a.0 (subst (λ t. CutsLine t line a.0) b a.1))
same_lines text (line ∷ lines) (other ∷ others) a b =
    let first = same_cut text line a.0 other b.0 a.1 b.1 in
    let rest : lines ≡ others =
    same_lines b.0 lines others (subst (λ r. HasLines r lines) first.1 a.2) b.2 in cc first.0

-- each text has its lines, and no others
pub texts_have_lines : TextsHaveLines
texts_have_lines text =
    let some = some_lines text in
    (some.0, some.1, λ others has. same_lines text others some.0 has some.1)
