-- The new groups that the plan makes of records, and which records each of them gets.
--
-- The fact to remember: pivots and cuts are keys of the records that were counted, whatever is removed afterwards.
use Rattle.std.specs.Prelude.{ℕ, ◌==◌, List, [], map, length, filter, flat_map}
use Rattle.std.specs.List.{range_with_len}
use Rattle.rebuild_plan.specs.Keys.{cut_of, group_keys, pivot_of}
use Rattle.rebuild_plan.specs.Plan.{group_count, lane_count}
use Rattle.layout_model.specs.Cells.{Cell}
use Rattle.layout_model.specs.Groups.{Group, Lane, live_records, pivots_of, with_array}
use Rattle.layout_model.specs.Phase.{Open}
use Rattle.layout_model.specs.Stretches.{begin_of}

-- the empty lanes of a group with this pivot that is planned for these keys
abbrev pub planned_lanes : (pivot : ℕ) (keys : List ℕ) → List Lane
planned_lanes pivot keys =
    map (λ lane. record { cut = cut_of pivot keys lane; rows = [] })
    (range_with_len 0 (lane_count (length keys)))

-- a planned group, as yet without records
abbrev pub planned_group : (first_pivot : ℕ) (keys : List ℕ) (group_size group : ℕ) → Group
planned_group first_pivot keys group_size group =
    let pivot = pivot_of first_pivot keys group_size group in
    record {
      pivot = pivot;
      array = [];
      lanes = planned_lanes pivot (group_keys keys group_size group);
      phase = Open;
    }

-- all groups that are planned for records with these keys
abbrev pub planned_groups : (first_pivot : ℕ) (keys : List ℕ) (group_size : ℕ) → List Group
planned_groups first_pivot keys group_size =
    map (planned_group first_pivot keys group_size)
    (range_with_len 0 (group_count (length keys) group_size))

-- those of the records that lie in the stretch of the one of the groups with this pivot
abbrev pub records_for : List Group → List Cell → ℕ → List Cell
records_for groups cells pivot = filter (λ c. begin_of (pivots_of groups) c.key == pivot) cells

-- the groups, each with those of the records as its array that lie in its stretch
abbrev pub filled : List Cell → List Group → List Group
filled cells groups = map (λ g. with_array (records_for groups cells g.pivot) g) groups

-- the records of neighbouring groups that have a value, in the order of their keys
abbrev pub records_in : List Group → List Cell
records_in groups = flat_map live_records groups
