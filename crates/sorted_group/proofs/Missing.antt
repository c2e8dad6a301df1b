-- A key that does not stand where its smaller keys end is in no place of a rising list.
use Rattle.std.proofs.Common.{◌≡◌, ◌≢◌, ℕ, ◌<◌, ◌≤◌, List, length, arith}
use Rattle.std.specs.Prelude.{slice_index}
use Rattle.std.specs.List.Sorted.{IsStrictlyIncreasing}
use Rattle.std.proofs.lemmas.Bool.{cases_lt}
use Rattle.std.proofs.Common.{⊎_elim}
use Rattle.line_window.specs.Search.{count_below}
use Rattle.line_window.proofs.Counts.{count-above, count-below}
use Rattle.line_window.proofs.Rising.{rises-to}
use Rattle.sorted_group.specs.Searches.{IsMissing}

pub missing : (keys : List ℕ) (key count : ℕ) → IsStrictlyIncreasing keys →
    count ≡ count_below keys key → (count < length keys → slice_index keys count ≢ key) →
    IsMissing keys key
missing keys key count rising is differs i lt at =
    let ahead : count ≤ i =
    omega (arith, is, count-below keys key i rising lt (omega (arith, at))) in
    let within : count < length keys = omega (arith, ahead, lt) in
    let up = rises-to keys count i rising ahead lt in
    let other = differs within in
    ⊎_elim
    (λ (z : slice_index keys count < key).
    let above = count-above keys key count rising within z in
    omega (arith, is, above))
    (λ (z : key ≤ slice_index keys count). other (omega (arith, z, up, at)))
    (cases_lt (slice_index keys count) key)
