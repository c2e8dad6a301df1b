-- A text to which lines of a word and a number are appended.
use Rattle.std.proofs.Common.{◌≡◌, ℕ, List, ◌++◌, ap, ◌∙◌, append_assoc}
use Rattle.trace_text.specs.Text.{number_line}

pub first_line : (start now word : List ℕ) (n m : ℕ) → now ≡ start ++ number_line word n → n ≡ m →
    now ≡ start ++ number_line word m
first_line start now word n m is same =
    is ∙ ap (λ (z : ℕ). start ++ number_line word z) same

pub next_line : (start now then lines word : List ℕ) (n m : ℕ) → now ≡ start ++ lines →
    then ≡ now ++ number_line word n → n ≡ m → then ≡ start ++ (lines ++ number_line word m)
next_line start now then lines word n m so_far is same =
    is
    ∙ (ap (λ (z : ℕ). now ++ number_line word z) same
    ∙ (ap (λ (t : List ℕ). t ++ number_line word m) so_far ∙ append_assoc start lines (number_line word m)))
