-- How the rows of an opening are planned into groups: those of each part by themselves, into as few groups as the
-- fill limit allows.
--
-- The fact to remember: a part's groups are its first group rows, in the order of their keys.
use Rattle.std.specs.Prelude.{ℕ, ◌+◌, ◌<◌, ◌≤◌, cond, ◌==◌, nat_le, List, [], ◌∷◌, length, count_by}
use Rattle.map_model.specs.Map.{Map}
use Rattle.rebuild_plan.specs.Keys.{later_pivots}
use Rattle.rebuild_plan.specs.Plan.{group_count}
use Rattle.word_layout.specs.Parts.{greatest_key, part_with}
use Rattle.word_layout.specs.Shape.{Shape, parts_in, group_total, first_group_of}

-- ---- the rows of a part ----

-- the keys of those rows whose keys have this number by the map, in their order
abbrev pub keys_for : (ℕ → ℕ) → ℕ → Map → List ℕ
keys_for number_of number [] = []
keys_for number_of number (r ∷ rs) =
    cond (number_of r.0 == number) (r.0 ∷ keys_for number_of number rs) (keys_for number_of number rs)

-- the keys of the rows that a part has
abbrev pub part_keys : Shape → Map → ℕ → List ℕ
part_keys s rows part = keys_for (part_with s.bounds) part rows

-- ---- the groups of a part ----

-- how many groups the rows of a part are planned into
abbrev pub planned_count : Shape → Map → ℕ → ℕ
planned_count s rows part = group_count (length (part_keys s rows part)) s.limits.group_size

-- each part has group rows for its planned groups
abbrev pub FitsTable : Shape → Map → Type 0
FitsTable s rows = (part : ℕ) → part < parts_in s → planned_count s rows part ≤ s.limits.groups

-- the planned group of a key: as many of its part's later pivots are at most the key as groups are before it; for
-- what is no key, the number behind the last group
abbrev pub planned_group : Shape → Map → ℕ → ℕ
planned_group s rows k =
    let part = part_with s.bounds k in
    let later = later_pivots (part_keys s rows part) s.limits.group_size in
    cond (nat_le k greatest_key)
    (first_group_of s part + count_by (λ pivot. nat_le pivot k) later)
    (group_total s)
