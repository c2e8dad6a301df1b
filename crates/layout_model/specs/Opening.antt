-- The layout of an index as it is opened with rows.
--
-- The fact to remember: the rows of each part are planned by themselves, as those of a rebuild are.
use Rattle.std.specs.Prelude.{ℕ, ◌-◌, false, ◌==◌, List, map, length, filter}
use Rattle.std.specs.List.{range_with_len}
use Rattle.map_model.specs.Map.{Map}
use Rattle.word_layout.specs.Parts.{first_key_of}
use Rattle.word_layout.specs.Shape.{Shape, parts_in}
use Rattle.layout_model.specs.Calls.{new_cell}
use Rattle.layout_model.specs.Cells.{Cell, keys_of}
use Rattle.layout_model.specs.Groups.{Group}
use Rattle.layout_model.specs.Layout.{Layout, Part, no_part, part_number}
use Rattle.layout_model.specs.Plans.{filled, planned_groups}
use Rattle.layout_model.specs.Roots.{root_over}

-- the records of the rows that a part has
abbrev pub opening_cells : Shape → Map → ℕ → List Cell
opening_cells h rows i =
    map (λ row. new_cell h row.0 row.1) (filter (λ row. part_number h row.0 == i) rows)

-- the groups that are planned for the rows of a part
abbrev pub opening_chain : Shape → Map → ℕ → List Group
opening_chain h rows i =
    let cells = opening_cells h rows i in
    filled cells
    (planned_groups (first_key_of h.bounds i) (keys_of cells) h.limits.group_size)

-- a part as it is opened
abbrev pub opening_part : Shape → Map → ℕ → Part
opening_part h rows i =
    let chain = opening_chain h rows i in
    record no_part {
      chain = chain;
      slots = root_over h.limits.slots chain;
      free_groups = h.limits.groups - length chain;
    }

-- the layout of an index of this shape that is opened with these rows
abbrev pub opening : Shape → Map → Layout
opening h rows =
    record {
      parts = map (opening_part h rows) (range_with_len 0 (parts_in h));
      free_rows = h.limits.records;
      held = λ c. false;
      probes = λ c. 0;
    }
