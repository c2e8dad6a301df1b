-- What holds of an index as it is opened with rows.
use Rattle.std.specs.Prelude.{ℕ, ◌<◌, ◌≤◌, length, All}
use Rattle.map_model.specs.Map.{IsRising, Map}
use Rattle.word_layout.specs.Limits.{KeepsRulesIn}
use Rattle.word_layout.specs.Parts.{AreBounds, greatest_key}
use Rattle.word_layout.specs.Shape.{Shape, parts_in}
use Rattle.layout_model.specs.Opening.{opening, opening_chain}
use Rattle.layout_model.specs.Pairs.{HasPairs}
use Rattle.layout_model.specs.RowLaws.{IsSound}

-- an index of this shape can be opened with these rows: they are a map of keys, and each part has room for its groups
pub record CanOpen (h : Shape) (rows : Map) : Type 0 where
  pub rules : KeepsRulesIn h
  pub bounds : AreBounds h.bounds
  pub rising : IsRising rows
  pub keys : All (λ row. row.0 ≤ greatest_key) rows
  pub room : (i : ℕ) → i < parts_in h → length (opening_chain h rows i) ≤ h.limits.groups

-- its layout is well-formed then, and has all its rows
abbrev pub OpeningsAreSound : Type 0
OpeningsAreSound = (h : Shape) (rows : Map) → CanOpen h rows → IsSound h (opening h rows)

-- and its pairs are the rows
abbrev pub OpeningsHaveTheirPairs : Type 0
OpeningsHaveTheirPairs = (h : Shape) (rows : Map) → CanOpen h rows →
    HasPairs h (opening h rows) rows
