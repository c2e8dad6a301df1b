-- The straight line from the first of a rising list of keys to the last, and how far off it is.
use Rattle.std.specs.Prelude.{ℕ, ◌+◌, ◌-◌, ◌*◌, ◌/◌, ◌<◌, ◌≤◌, ◌≡◌, ◌||◌, List, [], ◌∷◌, length, slice_index, min, max, nat_lt, nat_le, if◌then◌else◌}
use Rattle.std.specs.Int.{abs_diff}

-- a line: the number of keys, the first and the last of them, and how far off a guess may be
pub record Parts : Type 0 where
  pub len : ℕ
  pub first : ℕ
  pub last : ℕ
  pub error : ℕ

-- a line can have these numbers: it has no key, or one, or a first key that is below the last
pub record IsLine (line : Parts) : Type 0 where
  pub none : line.len ≡ 0 → (line.first ≡ 0) × (line.last ≡ 0) × (line.error ≡ 0)
  pub one : line.len ≡ 1 → line.first ≡ line.last
  pub more : 2 ≤ line.len → line.first < line.last
  pub error : line.error ≤ line.len

-- the line with these four numbers
abbrev pub line_with : (len first last error : ℕ) → Parts
line_with len first last error = record { len = len; first = first; last = last; error = error }

-- the part of the way from the first key to the last that a key has gone, in places, rounded down
unfoldable pub guess_between : (len first last key : ℕ) → ℕ
guess_between len first last key =
    let way = (key - first) * (len - 1) / (last - first) in
    if nat_lt len 2 || nat_le key first then 0 else min (len - 1) way

-- the place where the line sees a key
abbrev pub guess_of : Parts → ℕ → ℕ
guess_of line key = guess_between line.len line.first line.last key

-- the first key, or 0 for no keys
abbrev pub first_of : List ℕ → ℕ
first_of keys = slice_index keys 0

-- the last key, or 0 for no keys
abbrev pub last_of : List ℕ → ℕ
last_of keys = slice_index keys (length keys - 1)

-- the greatest distance between a key's guess and its place, for keys that begin at this place
abbrev pub error_from : (ℕ → ℕ) → ℕ → List ℕ → ℕ
error_from guess place [] = 0
error_from guess place (key ∷ keys) =
    max (abs_diff (guess key) place) (error_from guess (place + 1) keys)

-- the greatest distance between a key's guess and its place, or 0 for no keys
abbrev pub error_of : List ℕ → ℕ
error_of keys = error_from (guess_between (length keys) (first_of keys) (last_of keys)) 0 keys

-- the line of a list of keys
abbrev pub line_of : List ℕ → Parts
line_of keys = line_with (length keys) (first_of keys) (last_of keys) (error_of keys)

-- a key's window begins as far below its guess as a guess may be off
abbrev pub window_start : Parts → ℕ → ℕ
window_start line key = guess_of line key - line.error

-- a key's window ends as far above its guess and one place on, but not past the list
abbrev pub window_end : Parts → ℕ → ℕ
window_end line key = min line.len (guess_of line key + line.error + 1)
