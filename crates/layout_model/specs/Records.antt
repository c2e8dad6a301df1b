-- Where the records of a key stand: in the array of its group, in its buffer, or in a new group's buffer.
--
-- The fact to remember: a key has at most one record with a value.
use Rattle.std.specs.Prelude.{◌≡◌, ℕ, Option, Some, None, List, []}
use Rattle.layout_model.specs.Cells.{Cell, added, cell_at, live_at, replaced}
use Rattle.layout_model.specs.Groups.{group_for, lane_for, with_group, with_rows}
use Rattle.layout_model.specs.Layout.{Part}
use Rattle.layout_model.specs.Phase.{Phase, Open, Frozen, Opened}

-- where a record of a key may stand: in the array of the key's group, in the group's buffer, or, where the group was
-- opened to new groups, in the buffer of the new group that has the key
pub data Spot : Type 0 where
  InArray : Spot
  InBuffer : Spot
  InNewBuffer : Spot

-- the rows of a new group's lane, where the key's group was opened to it
abbrev pub if_opened : Phase → List Cell → List Cell
if_opened Open rows = []
if_opened Frozen rows = []
if_opened Opened rows = rows

-- the records at a spot for a key
abbrev pub cells_for : Part → ℕ → Spot → List Cell
cells_for p k InArray = (group_for p.chain k).array
cells_for p k InBuffer = (lane_for (group_for p.chain k) k).rows
cells_for p k InNewBuffer =
    if_opened (group_for p.chain k).phase (lane_for (group_for p.coming k) k).rows

-- the part with these records at a spot for a key
abbrev pub with_cells : ℕ → Spot → List Cell → Part → Part
with_cells k InArray cells p =
    record p { chain = with_group k (record (group_for p.chain k) { array = cells }) p.chain }
with_cells k InBuffer cells p =
    record p { chain = with_group k (with_rows k cells (group_for p.chain k)) p.chain }
with_cells k InNewBuffer cells p =
    record p { coming = with_group k (with_rows k cells (group_for p.coming k)) p.coming }

-- the part with this record at a spot, in the place of the one with its key there
abbrev pub with_replaced : Spot → Cell → Part → Part
with_replaced spot new p =
    with_cells new.key spot (replaced new (cells_for p new.key spot)) p

-- the part with this record at a spot, where its key had none
abbrev pub with_added : Spot → Cell → Part → Part
with_added spot new p = with_cells new.key spot (added new (cells_for p new.key spot)) p

-- a record, and where it stands
pub record Found : Type 0 where
  pub spot : Spot
  pub cell : Cell

-- the record at this spot, if there is one, or else what is found elsewhere
abbrev pub found_at : Spot → Option Cell → Option Found → Option Found
found_at spot None elsewhere = elsewhere
found_at spot (Some c) elsewhere = Some (record { spot = spot; cell = c })

-- the record of a key that has a value
abbrev pub live_record : Part → ℕ → Option Found
live_record p k =
    found_at InArray (live_at (cells_for p k InArray) k)
    (found_at InBuffer (live_at (cells_for p k InBuffer) k)
    (found_at InNewBuffer (live_at (cells_for p k InNewBuffer) k) None))

-- ---- what stands in the way of a put ----

-- where a key without a value is put, by the phase of its group
abbrev pub new_spot : Phase → Option Spot
new_spot Open = Some InBuffer
new_spot Frozen = None
new_spot Opened = Some InNewBuffer

-- the key has no value, and this removed row at the spot where it is put
pub record HasRemovedRow (p : Part) (k : ℕ) (spot : Spot) (row : Cell) : Type 0 where
  pub absent : live_record p k ≡ None
  pub named : new_spot (group_for p.chain k).phase ≡ Some spot
  pub there : cell_at (cells_for p k spot) k ≡ Some row

-- the key has no value, and no row at the spot where it is put
pub record HasNoRow (p : Part) (k : ℕ) (spot : Spot) : Type 0 where
  pub absent : live_record p k ≡ None
  pub named : new_spot (group_for p.chain k).phase ≡ Some spot
  pub none : cell_at (cells_for p k spot) k ≡ None

-- the key has no value, and its group is frozen
pub record IsFrozenFor (p : Part) (k : ℕ) : Type 0 where
  pub absent : live_record p k ≡ None
  pub frozen : (group_for p.chain k).phase ≡ Frozen
