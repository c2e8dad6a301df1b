-- The answer of a search, where it is to be found, and how many comparisons find it.
use Rattle.std.specs.Prelude.{ℕ, zero, suc, ◌+◌, ◌-◌, ◌/◌, ◌≡◌, ◌≤◌, List, count_by, nat_lt, if◌then◌else◌}
use Rattle.std.specs.List.Sorted.{IsStrictlyIncreasing}
use Rattle.line_window.specs.Line.{Parts, line_of, window_start, window_end}

-- how many of the keys are below the key
abbrev pub count_below : List ℕ → ℕ → ℕ
count_below keys key = count_by (λ other. nat_lt other key) keys

-- in each rising list of this line, the number of keys below the key is within the two ends
abbrev pub HoldsCount : Parts → (key start end : ℕ) → Type 0
HoldsCount line key start end =
    (keys : List ℕ) → IsStrictlyIncreasing keys → line ≡ line_of keys →
    (start ≤ count_below keys key) × (count_below keys key ≤ end)

-- how many of at most so many comparisons with the middle halve the places down to this one
abbrev pub comparisons_within : (most place low high : ℕ) → ℕ
comparisons_within zero place low high = 0
comparisons_within (suc most) place low high =
    let middle = (low + high) / 2 in
    let above = comparisons_within most place (middle + 1) high in
    let below = comparisons_within most place low middle in
    if nat_lt low high then suc (if nat_lt middle place then above else below) else 0

-- how many comparisons with the middle halve the places from low to high down to this one
unfoldable pub comparisons : (place low high : ℕ) → ℕ
comparisons place low high = comparisons_within (high - low) place low high

-- how many comparisons find the number of keys below a key, by halving its window
abbrev pub probes_of : List ℕ → ℕ → ℕ
probes_of keys key =
    let line = line_of keys in
    comparisons (count_below keys key) (window_start line key) (window_end line key)
