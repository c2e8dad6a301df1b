-- A table with one part, which has all keys.
use Rattle.std.proofs.Common.{◌≡◌, ℕ, ◌<◌, ◌≤◌, [], refl, arith, ⊎_elim}
use Rattle.std.proofs.lemmas.Bool.{cases_lt, le-leb, lt-leb, le-ltb, lt-ltb}
use Rattle.std.specs.Prelude.{nat_le}
use Rattle.index_machine.specs.Openings.{within}
use Rattle.word_layout.specs.Parts.{AreBounds, IsKeyOfPart, greatest_key}

-- no bound cuts the keys
pub one_part_cut : AreBounds []
one_part_cut = record {
  few = omega arith;
  rising = λ k h. absurd (omega (arith, h));
  keys = λ k d h. absurd (omega (arith, h));
}

-- all keys lie from 0 to the greatest, as one comparison and as two
pub is_key : (k : ℕ) → nat_le k greatest_key ≡ within 0 k greatest_key
is_key k = ⊎_elim
    (λ (more : greatest_key < k).
    rw (lt-leb k greatest_key more, le-ltb k 0 (omega arith), lt-ltb greatest_key k more) refl)
    (λ (less : k ≤ greatest_key).
    rw (le-leb k greatest_key less, le-ltb k 0 (omega arith), le-ltb greatest_key k less) refl)
    (cases_lt greatest_key k)

-- each key is one of the part
pub in_whole : (k : ℕ) → k ≤ greatest_key → IsKeyOfPart [] 0 k
in_whole k small = record { from = omega arith; to = small }
