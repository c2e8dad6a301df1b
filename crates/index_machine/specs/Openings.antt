-- What stands when the table is opened.
use Rattle.std.specs.Prelude.{ℕ, Bool, true, false, cond, nat_lt, Option, Some, None}
use Rattle.map_model.specs.Map.{Map}
use Rattle.index_machine.specs.declared.opening.Opening.{Opening}
use Rattle.index_machine.specs.Words.{limits, shape}
use Rattle.index_machine.specs.OpeningRows.{opening_row, place_from}
use Rattle.index_machine.specs.Forms.{Form, Blank, Unlocked}
pub use Rattle.index_machine.specs.OpeningRows.{opening_group}

-- the version of a new record
abbrev pub first_version : Opening → ℕ
first_version o = (limits o).first_version

-- the map at the opening
abbrev pub opening_map : Opening → Map
opening_map o = o.rows

-- the form of a place with this row, in its first version
abbrev pub form_of_row : ℕ → Option (ℕ × ℕ) → Form
form_of_row first None = Blank
form_of_row first (Some row) = Unlocked first false row.1

-- the form of a place at the opening
abbrev pub opening_form : Opening → ℕ → Form
opening_form o place = form_of_row (first_version o) (opening_row o place)

-- the place where the value of a key is at the opening
abbrev pub opening_live_place : Opening → ℕ → Option ℕ
opening_live_place o k = place_from (shape o) (opening_group o) 0 0 o.rows k

-- whether a key lies from low to high, both included
abbrev pub within : ℕ → ℕ → ℕ → Bool
within low k high = cond (nat_lt k low) false (cond (nat_lt high k) false true)
