-- The rows that are tokens of a hand, by their places.
use Rattle.std.specs.Prelude.{ℕ}
use Rattle.index_rule.specs.declared.rows.PrivateRow.{PrivateRow}
use Rattle.index_rule.specs.declared.rows.RetiredRow.{RetiredRow}

-- the place of a row that was taken
abbrev pub place_of_private : PrivateRow → ℕ
place_of_private row = row.place

-- the place of a row that is to be given back
abbrev pub place_of_retired : RetiredRow → ℕ
place_of_retired row = row.place
