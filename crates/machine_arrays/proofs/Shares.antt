-- The arrays as the table is opened have the keys that the plan gives their groups.
use Rattle.std.proofs.Common.{ℕ, ◌+◌, [], sym, ◌∙◌}
use Rattle.index_machine.specs.OpeningRows.{opening_keys}
use Rattle.index_machine.specs.Words.{shape}
use Rattle.index_machine.proofs.OpeningPlan.{row_keys}
use Rattle.word_layout.specs.Shape.{first_group_of}
use Rattle.machine_arrays.specs.Arrays.{OpenedArraysHaveTheirShares}
use Rattle.machine_arrays.proofs.Keys.{keys_are}
use Rattle.machine_arrays.proofs.Opened.{opened_keys}

pub their_shares : OpenedArraysHaveTheirShares
their_shares o part number is_part among =
    let group : ℕ = first_group_of (shape o) part + number in
    sym (keys_are o [] tt group (opening_keys o group) (opened_keys o group))
    ∙ row_keys o part number is_part among
