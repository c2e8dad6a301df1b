-- The shape of a table: its limits, and the bounds that cut the space of keys into its parts.
--
-- The fact to remember: groups and slots are counted for each part, and a group's number counts over all parts.
use Rattle.std.specs.Prelude.{ℕ, ◌*◌, ◌/◌, List, []}
use Rattle.word_layout.specs.declared.limits.Limits.{Limits}
use Rattle.word_layout.specs.Parts.{part_count}

-- what settles where each word of a table stands
pub record Shape : Type 0 where
  pub limits : Limits
  pub bounds : List ℕ

-- the shape with these limits and bounds
abbrev pub shape : Limits → List ℕ → Shape
shape l bounds = record { limits = l; bounds = bounds }

-- the shape of a table with one part
abbrev pub in_one_part : Limits → Shape
in_one_part l = shape l []

-- how many parts there are
abbrev pub parts_in : Shape → ℕ
parts_in s = part_count s.bounds

-- ---- the groups of a part ----

-- how many group rows all parts have together
abbrev pub group_total : Shape → ℕ
group_total s = parts_in s * s.limits.groups

-- the number of the first group row of a part
abbrev pub first_group_of : Shape → ℕ → ℕ
first_group_of s part = part * s.limits.groups

-- the part that a group's row belongs to
abbrev pub part_of_group : Shape → ℕ → ℕ
part_of_group s group = group / s.limits.groups
