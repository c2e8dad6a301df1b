-- Groups: an array of records, a buffer in lanes, and a phase.
--
-- The fact to remember: a record that is forwarded counts as a record of the array that forwards to it, so a group
-- between its install and its copy has its records as any other.
use Rattle.std.specs.Prelude.{ℕ, ◌+◌, List, [], map, length, flat_map, count_by, sum_by, slice_index_or, slice_set}
use Rattle.line_window.specs.Search.{probes_of}
use Rattle.layout_model.specs.Cells.{Cell, keys_of, live_cells, merged}
use Rattle.layout_model.specs.Phase.{Phase, Open}
use Rattle.layout_model.specs.Stretches.{position_of}

-- ---- what they are ----

-- a lane of a buffer: its least key, and its rows by rising keys
pub record Lane : Type 0 where
  pub cut : ℕ
  pub rows : List Cell

-- a group: its least key, the records of its array by rising keys, the lanes of its buffer in order, its phase
pub record Group : Type 0 where
  pub pivot : ℕ
  pub array : List Cell
  pub lanes : List Lane
  pub phase : Phase

-- what stands for a lane, and for a group, where there is none
abbrev pub no_lane : Lane
no_lane = record { cut = 0; rows = [] }

abbrev pub no_group : Group
no_group = record { pivot = 0; array = []; lanes = []; phase = Open }

-- ---- the buffer ----

-- where the lanes begin
abbrev pub cuts_of : Group → List ℕ
cuts_of g = map (λ lane. lane.cut) g.lanes

-- the lane that has a key
abbrev pub lane_for : Group → ℕ → Lane
lane_for g k = slice_index_or g.lanes (position_of (cuts_of g) k) no_lane

-- the lane with other rows
abbrev pub with_lane_rows : List Cell → Lane → Lane
with_lane_rows rows lane = record lane { rows = rows }

-- the group with these rows in the lane that has a key
abbrev pub with_rows : ℕ → List Cell → Group → Group
with_rows k rows g =
    record g {
      lanes = slice_set g.lanes (position_of (cuts_of g) k) (with_lane_rows rows (lane_for g k));
    }

-- the rows of all lanes, in their order
abbrev pub rows_of : Group → List Cell
rows_of g = flat_map (λ lane. lane.rows) g.lanes

-- ---- the array ----

-- the group with these records in its array
abbrev pub with_array : List Cell → Group → Group
with_array cells g = record g { array = cells }

-- ---- counts ----

-- how many rows all lanes have, removed ones included
abbrev pub row_count : Group → ℕ
row_count g = sum_by (λ lane. length lane.rows) g.lanes

-- how many records of the array are removed
abbrev pub removed_count : Group → ℕ
removed_count g = count_by (λ c. c.removed) g.array

-- the records of the group that have a value, in the order of their keys
abbrev pub live_records : Group → List Cell
live_records g = merged (live_cells g.array) (live_cells (rows_of g))

-- how many records of the group have a value
abbrev pub live_count : Group → ℕ
live_count g = length (live_cells g.array) + length (live_cells (rows_of g))

-- how many keys are compared to locate a key in the group's array
abbrev pub probes_in : Group → ℕ → ℕ
probes_in g k = probes_of (keys_of g.array) k

-- ---- several groups ----

-- where the groups begin
abbrev pub pivots_of : List Group → List ℕ
pivots_of groups = map (λ g. g.pivot) groups

-- the group at a position
abbrev pub group_at : List Group → ℕ → Group
group_at groups i = slice_index_or groups i no_group

-- the position of the group that has a key, and that group
abbrev pub group_position : List Group → ℕ → ℕ
group_position groups k = position_of (pivots_of groups) k

abbrev pub group_for : List Group → ℕ → Group
group_for groups k = group_at groups (group_position groups k)

-- the groups with another one in the place of the one that has a key
abbrev pub with_group : ℕ → Group → List Group → List Group
with_group k g groups = slice_set groups (group_position groups k) g

-- the group with another phase
abbrev pub with_phase : Phase → Group → Group
with_phase phase g = record g { phase = phase }
