-- The number of smaller keys lies in a key's window, both ends included.
use Rattle.std.proofs.Common.{◌≡◌, ℕ, zero, suc, ◌+◌, ◌-◌, ◌*◌, ◌^◌, ◌<◌, ◌≤◌, List, length, get_or, inl, inr, refl, arith}
use Rattle.std.proofs.lemmas.Bool.{cases_lt}
use Rattle.std.specs.List.Sorted.{IsStrictlyIncreasing}
use Rattle.std.specs.Int.{abs_diff}
use Rattle.line_window.specs.Line.{Parts, guess_between, guess_of, first_of, last_of, error_of, line_of, window_start, window_end}
use Rattle.line_window.specs.Search.{count_below, HoldsCount, probes_of}
use Rattle.line_window.proofs.Guesses.{guess-monotone, guess-within, error-at}
use Rattle.line_window.proofs.Counts.{count-above, count-below, count-within}
use Rattle.line_window.proofs.Halvings.{comparisons-few}

-- what is not smaller is at least as great
not-smaller : (other key : ℕ) → ¬ (other < key) → key ≤ other
not-smaller other key h = omega arith

-- what is not at least as great is smaller
not-greater : (other key : ℕ) → ¬ (key ≤ other) → other < key
not-greater other key h = omega arith

-- the first larger key has a guess near its place
window-from : (keys : List ℕ) (key : ℕ) → IsStrictlyIncreasing keys → window_start (line_of keys) key ≤ count_below keys key
window-from keys key rising =
    let guess = guess_between (length keys) (first_of keys) (last_of keys) in
    let count : ℕ = count_below keys key in
    let within : guess key ≤ length keys - 1 = guess-within (length keys) (first_of keys) (last_of keys) key in
    elim (cases_lt count (length keys)) [
      | inl short ↦ (
          let greater : key ≤ get_or keys count 0 = not-smaller (get_or keys count 0) key (λ smaller. omega (arith, count-above keys key count rising short smaller)) in
          let risen : guess key ≤ guess (get_or keys count 0) = guess-monotone (length keys) (first_of keys) (last_of keys) key (get_or keys count 0) greater in
          let near : abs_diff (guess (get_or keys count 0)) (0 + count) ≤ error_of keys = error-at guess 0 keys count short in
          omega arith
          )
      | inr all ↦ omega arith
    ]

-- the last of the smaller keys has a guess near its place
reached : (keys : List ℕ) (key count : ℕ) → IsStrictlyIncreasing keys → count_below keys key ≡ count → count ≤ guess_of (line_of keys) key + error_of keys + 1
reached keys key zero rising is = omega arith
reached keys key (suc before) rising is =
    let guess = guess_between (length keys) (first_of keys) (last_of keys) in
    let short : before < length keys = omega (arith, count-within keys key) in
    let smaller : get_or keys before 0 < key = not-greater (get_or keys before 0) key (λ greater. omega (arith, count-below keys key before rising short greater)) in
    let risen : guess (get_or keys before 0) ≤ guess key = guess-monotone (length keys) (first_of keys) (last_of keys) (get_or keys before 0) key (omega arith) in
    let near : abs_diff (guess (get_or keys before 0)) (0 + before) ≤ error_of keys = error-at guess 0 keys before short in
    omega arith

window-to : (keys : List ℕ) (key : ℕ) → IsStrictlyIncreasing keys → count_below keys key ≤ window_end (line_of keys) key
window-to keys key rising =
    let within : count_below keys key ≤ length keys = count-within keys key in
    let reach : count_below keys key ≤ guess_of (line_of keys) key + error_of keys + 1 = reached keys key (count_below keys key) rising refl in
    omega arith

-- in each list of a line the count lies in the window
pub window-holds : (line : Parts) (key : ℕ) → HoldsCount line key (window_start line key) (window_end line key)
window-holds line key keys rising is = rw is (window-from keys key rising, window-to keys key rising)

-- a window is about twice as long as the error, so that few comparisons halve it
pub probes_of-few : (keys : List ℕ) (key : ℕ) → 2 ^ probes_of keys key ≤ 4 * error_of keys + 4
probes_of-few keys key = omega (arith, comparisons-few (count_below keys key) (window_start (line_of keys) key) (window_end (line_of keys) key))
