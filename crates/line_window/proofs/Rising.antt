-- The keys of a rising list, by their places, and the line between its ends.
use Rattle.std.proofs.Common.{◌≡◌, ℕ, zero, suc, ◌+◌, ◌-◌, ◌<◌, ◌≤◌, List, length, get_or, arith, add-one, add-zero, add-suc, zero-add, ap}
use Rattle.std.specs.List.Sorted.{IsStrictlyIncreasing}
use Rattle.std.proofs.lemmas.List.{get_or_past}
use Rattle.line_window.specs.Line.{IsLine, line_with, first_of, last_of}

-- a key that stands further on is greater by at least the distance
pub rises : (keys : List ℕ) (i by : ℕ) → IsStrictlyIncreasing keys → i + by < length keys → get_or keys i 0 + by ≤ get_or keys (i + by) 0
rises keys i zero rising h = simp add-zero (omega arith)
rises keys i (suc by) rising h =
    let here : get_or keys i 0 + by ≤ get_or keys (i + by) 0 = rises keys i by rising (omega arith) in
    let next : get_or keys (i + by) 0 < get_or keys (suc (i + by)) 0 = rw add-one at (rising (i + by) (omega arith)) in
    simp add-suc (omega arith)

-- the same, with the place further on at hand
pub rises-to : (keys : List ℕ) (i j : ℕ) → IsStrictlyIncreasing keys → i ≤ j → j < length keys → get_or keys i 0 ≤ get_or keys j 0
rises-to keys i j rising h short =
    let reach : i + (j - i) ≡ j = omega arith in
    let risen : get_or keys i 0 + (j - i) ≤ get_or keys (i + (j - i)) 0 = rises keys i (j - i) rising (omega arith) in
    let there : get_or keys i 0 + (j - i) ≤ get_or keys j 0 = rw reach at risen in
    omega arith

-- the ends of two or more keys differ
pub first-below-last : (keys : List ℕ) → IsStrictlyIncreasing keys → 2 ≤ length keys → get_or keys 0 0 < get_or keys (length keys - 1) 0
first-below-last keys rising many =
    let risen : get_or keys 0 0 + (length keys - 1) ≤ get_or keys (0 + (length keys - 1)) 0 = rises keys 0 (length keys - 1) rising (omega arith) in
    let there : get_or keys 0 0 + (length keys - 1) ≤ get_or keys (length keys - 1) 0 = rw zero-add at risen in
    omega arith

-- the first and the last of a rising list make a line, however far off its guesses are within the list
pub is_line : (keys : List ℕ) (error : ℕ) → IsStrictlyIncreasing keys → error ≤ length keys → IsLine (line_with (length keys) (first_of keys) (last_of keys) error)
is_line keys error rising near =
    record {
      none = λ empty. (get_or_past keys 0 0 (omega arith), get_or_past keys (length keys - 1) 0 (omega arith), omega arith);
      one = λ single. ap (λ (i : ℕ). get_or keys i 0) (omega arith);
      more = first-below-last keys rising;
      error = near;
    }
