-- The first word of a line, and the carriage return at its end.
use Rattle.std.proofs.Common.{◌≡◌, ◌≢◌, ℕ, List, [], ◌∷◌, ◌++◌, refl, sym, ap, subst, inl, inr, ◌∙◌, append_assoc}
use Rattle.wire_commands.specs.Words.{EndsWord, BeginsWith}
use Rattle.wire_commands.specs.Grammar.{DropsReturn}

-- what ends a word does so whatever comes behind it
pub ends_before : (rest more : List ℕ) → EndsWord rest → rest ≢ [] → EndsWord (rest ++ more)
ends_before [] more ends some = absurd (some refl)
ends_before (byte ∷ rest) more ends some = ends

-- what comes behind it is needed by no end of a word
pub ends_alone : (rest more : List ℕ) → EndsWord (rest ++ more) → EndsWord rest
ends_alone [] more ends = tt
ends_alone (byte ∷ rest) more ends = ends

-- a whole line begins as it does without its carriage return, and what follows has that carriage return
pub record BeginsWhole (whole word rest : List ℕ) : Type 0 where
  pub behind : List ℕ
  pub begins : BeginsWith whole word behind
  pub dropped : DropsReturn behind rest

pub begins_whole : (whole line word rest : List ℕ) → DropsReturn whole line → BeginsWith line word rest
    → rest ≢ [] → BeginsWhole whole word rest
begins_whole whole line word rest (inl ends) begins some = record {
  behind = rest ++ 13 ∷ [];
  begins = record {
    blanks = begins.blanks;
    line_is =
        ends ∙ ap (λ l. l ++ 13 ∷ []) begins.line_is
        ∙ append_assoc begins.blanks (word ++ rest) (13 ∷ [])
        ∙ ap (λ l. begins.blanks ++ l) (append_assoc word rest (13 ∷ []));
    all_blank = begins.all_blank;
    is_word = begins.is_word;
    ends = ends_before rest (13 ∷ []) begins.ends some;
  };
  dropped = inl refl;
}
begins_whole whole line word rest (inr none) begins some = record {
  behind = rest;
  begins = subst (λ l. BeginsWith l word rest) (sym none.0) begins;
  dropped = inr (
    refl,
    λ front is. none.1 (begins.blanks ++ (word ++ front))
        (none.0 ∙ begins.line_is ∙ ap (λ l. begins.blanks ++ (word ++ l)) is
        ∙ sym (append_assoc begins.blanks (word ++ front) (13 ∷ [])
        ∙ ap (λ l. begins.blanks ++ l) (append_assoc word front (13 ∷ [])))),
  );
}

-- what a list ends in, its last part ends in
pub last_of_last : (xs ys front : List ℕ) → ys ≢ [] → xs ++ ys ≡ front ++ 13 ∷ []
    → (last : List ℕ) × (ys ≡ last ++ 13 ∷ [])
last_of_last [] ys front some is = (front, is)
last_of_last (x ∷ xs) [] front some is = absurd (some refl)
last_of_last (x ∷ []) (y ∷ ys) [] some is = absurd (cc is)
last_of_last (x ∷ z ∷ xs) (y ∷ ys) [] some is = absurd (cc is)
last_of_last (x ∷ xs) (y ∷ ys) (z ∷ front) some is =
    let behind : xs ++ y ∷ ys ≡ front ++ 13 ∷ [] = cc is in
    last_of_last xs (y ∷ ys) front some behind

-- the line without the carriage return begins as the whole one does
pub record BeginsDropped (whole word rest : List ℕ) : Type 0 where
  pub line : List ℕ
  pub dropped : DropsReturn whole line
  pub begins : BeginsWith line word rest

pub begins_dropped : (whole word behind rest : List ℕ) → BeginsWith whole word behind
    → DropsReturn behind rest → behind ≢ [] → BeginsDropped whole word rest
begins_dropped whole word behind rest begins (inl ends) some = record {
  line = begins.blanks ++ (word ++ rest);
  dropped =
      inl (begins.line_is ∙ ap (λ l. begins.blanks ++ (word ++ l)) ends
      ∙ sym (append_assoc begins.blanks (word ++ rest) (13 ∷ [])
      ∙ ap (λ l. begins.blanks ++ l) (append_assoc word rest (13 ∷ []))));
  begins = record {
    blanks = begins.blanks;
    line_is = refl;
    all_blank = begins.all_blank;
    is_word = begins.is_word;
    ends = ends_alone rest (13 ∷ []) (subst EndsWord ends begins.ends);
  };
}
begins_dropped whole word behind rest begins (inr none) some = record {
  line = whole;
  dropped = inr (
    refl,
    λ front is.
        let split = sym (begins.line_is ∙ sym (append_assoc begins.blanks word behind)) ∙ is in
        let last = last_of_last (begins.blanks ++ word) behind front some split in
        none.1 last.0 last.1,
  );
  begins = subst (λ l. BeginsWith whole word l) none.0 begins;
}
