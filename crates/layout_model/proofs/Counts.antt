-- How many rows a part has once records were written at a spot of a key.
use Rattle.std.proofs.Common.{◌≡◌, ℕ, ◌+◌, ◌<◌, List, [], ◌∷◌, length, refl, arith, inl, inr}
use Rattle.std.proofs.lemmas.Bool.{cases_Bool}
use Rattle.std.proofs.lemmas.List.{length-map, length-set}
use Rattle.std.proofs.lemmas.List.Sums.{sum_by-set}
use Rattle.std.specs.Prelude.{cond, nat_lt, ◌==◌}
use Rattle.layout_model.specs.Cells.{Cell, added, replaced}
use Rattle.layout_model.specs.Groups.{Group, Lane, cuts_of, group_for, group_position, lane_for, no_group, no_lane, row_count, with_array, with_group, with_lane_rows, with_rows}
use Rattle.layout_model.specs.Layout.{Part}
use Rattle.layout_model.specs.Records.{InArray, InBuffer, InNewBuffer, Spot, cells_for, with_cells}
use Rattle.layout_model.specs.RowLaws.{part_groups, part_rows, rows_in}
use Rattle.layout_model.specs.Stretches.{position_of}
use Rattle.layout_model.proofs.Lookups.{HasPlaces, IsSpot}
use Rattle.layout_model.proofs.Positions.{group_position-within, lane_position-within}

-- ---- lists of records ----

-- one record more was added
pub length-added : (new : Cell) (cells : List Cell) → length (added new cells) ≡ length cells + 1
length-added new [] = refl
length-added new (c ∷ cs) =
    elim (cases_Bool (nat_lt new.key c.key)) [
      | inl before ↦ rw before (omega arith)
      | inr behind ↦ let rest = length-added new cs in rw behind (omega arith)
    ]

-- as many records stand there as before
pub length-replaced : (new : Cell) (cells : List Cell) → length (replaced new cells) ≡ length cells
length-replaced new cells = length-map cells (λ c. cond (c.key == new.key) new c)

-- ---- rows ----

row_count-with_rows : (k : ℕ) (rows : List Cell) (g : Group) → 0 < length g.lanes →
    row_count (with_rows k rows g) + length (lane_for g k).rows ≡ row_count g + length rows
row_count-with_rows k rows g some =
    sum_by-set (λ (lane : Lane). length lane.rows) g.lanes (position_of (cuts_of g) k)
    (with_lane_rows rows (lane_for g k)) no_lane (lane_position-within g k some)

rows_in-with_group : (groups : List Group) (k : ℕ) (g : Group) → 0 < length groups →
    rows_in (with_group k g groups) + row_count (group_for groups k) ≡ rows_in groups + row_count g
rows_in-with_group groups k g some =
    sum_by-set row_count groups (group_position groups k) g no_group
    (group_position-within groups k some)

-- how many rows so many records at a spot are
abbrev pub rows_at : Spot → ℕ → ℕ
rows_at InArray many = 0
rows_at InBuffer many = many
rows_at InNewBuffer many = many

pub part_rows-with_cells : (p : Part) (k : ℕ) (spot : Spot) (cells : List Cell) → HasPlaces p →
    IsSpot p k spot →
    part_rows (with_cells k spot cells p) + rows_at spot (length (cells_for p k spot))
    ≡ part_rows p + rows_at spot (length cells)
part_rows-with_cells p k InArray cells has is =
    let counted = rows_in-with_group p.chain k (with_array cells (group_for p.chain k)) has.chain in
    omega arith
part_rows-with_cells p k InBuffer cells has is =
    let lane = row_count-with_rows k cells (group_for p.chain k) (has.lanes k) in
    let counted = rows_in-with_group p.chain k (with_rows k cells (group_for p.chain k)) has.chain in
    omega arith
part_rows-with_cells p k InNewBuffer cells has is =
    let lane = row_count-with_rows k cells (group_for p.coming k) (has.coming_lanes k is) in
    let counted =
    rows_in-with_group p.coming k (with_rows k cells (group_for p.coming k)) (has.coming k is) in
    rw is (omega arith)

pub part_groups-with_cells : (p : Part) (k : ℕ) (spot : Spot) (cells : List Cell) →
    part_groups (with_cells k spot cells p) ≡ part_groups p
part_groups-with_cells p k InArray cells =
    rw (length-set p.chain (group_position p.chain k) (with_array cells (group_for p.chain k))) refl
part_groups-with_cells p k InBuffer cells =
    rw (length-set p.chain (group_position p.chain k) (with_rows k cells (group_for p.chain k))) refl
part_groups-with_cells p k InNewBuffer cells =
    rw (length-set p.coming (group_position p.coming k) (with_rows k cells (group_for p.coming k))) refl
