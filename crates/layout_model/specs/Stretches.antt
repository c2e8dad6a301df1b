-- Which of several neighbours has a key: groups by their pivots, or lanes by their cuts.
--
-- The fact to remember: each has the keys from where it begins to before where the next one begins, and the last one
-- has them up to a last key that is given.
use Rattle.std.specs.Prelude.{ℕ, ◌-◌, nat_lt, nat_le, if◌then◌else◌, List, length, slice_index, count_by}

-- how many of the neighbours begin at the key or before it
abbrev pub begun_at : (begins : List ℕ) (key : ℕ) → ℕ
begun_at begins key = count_by (λ begin. nat_le begin key) begins

-- the position of the one that has the key: the last that begins at the key or before it
abbrev pub position_of : (begins : List ℕ) (key : ℕ) → ℕ
position_of begins key = begun_at begins key - 1

-- where the one that has the key begins
abbrev pub begin_of : (begins : List ℕ) (key : ℕ) → ℕ
begin_of begins key = slice_index begins (position_of begins key)

-- the last key of the one that has the key, by the last key of them all
abbrev pub end_of : (begins : List ℕ) (last key : ℕ) → ℕ
end_of begins last key =
    if nat_lt (begun_at begins key) (length begins) then slice_index begins (begun_at begins key) - 1
    else last
