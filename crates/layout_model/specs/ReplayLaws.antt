-- What holds of the lines of a replay, one after another.
use Rattle.std.specs.Prelude.{◌≡◌, ℕ, ◌<◌, ◌≤◌, List, take, filter, nat_le, All, ⊤}
use Rattle.map_model.specs.Map.{Map}
use Rattle.word_layout.specs.Limits.{KeepsRulesIn}
use Rattle.word_layout.specs.Parts.{greatest_key}
use Rattle.word_layout.specs.Shape.{Shape, parts_in}
use Rattle.layout_model.specs.Layout.{Layout}
use Rattle.layout_model.specs.Line.{Free, Get, Hold, Line, MakeTurn, Probes, Put, Remove, Scan, ShowLayout}
use Rattle.layout_model.specs.Opening.{opening}
use Rattle.layout_model.specs.OpeningLaws.{CanOpen}
use Rattle.layout_model.specs.Pairs.{HasPairs}
use Rattle.layout_model.specs.Replay.{replay, step}
use Rattle.layout_model.specs.RowLaws.{IsSound}
use Rattle.layout_model.specs.Scans.{scan}
use Rattle.layout_model.specs.Turns.{turn_of}

-- ---- lines without turns ----

-- the line is that of a caller, or shows something
abbrev pub IsNoTurn : Line → Type 0
IsNoTurn (MakeTurn i) = ⊥
IsNoTurn (Get c k) = ⊤
IsNoTurn (Put c k v) = ⊤
IsNoTurn (Remove c k) = ⊤
IsNoTurn (Scan c from count) = ⊤
IsNoTurn (Hold c) = ⊤
IsNoTurn (Free c) = ⊤
IsNoTurn (Probes c) = ⊤
IsNoTurn ShowLayout = ⊤

-- each of them keeps a layout well-formed, with all its rows
abbrev pub LinesKeepLayouts : Type 0
LinesKeepLayouts = (h : Shape) (line : Line) (s : Layout) → KeepsRulesIn h → IsNoTurn line →
    IsSound h s → IsSound h (step h s line).left

-- so a replay of such lines leaves such a layout
abbrev pub ReplaysKeepLayouts : Type 0
ReplaysKeepLayouts = (h : Shape) (rows : Map) (lines : List Line) → CanOpen h rows →
    All IsNoTurn lines → IsSound h (replay h (opening h rows) lines).left

-- ---- stated, and not proved ----

-- a turn of a keeper keeps a layout well-formed, with all its rows, and keeps its pairs
abbrev pub TurnsKeepLayouts : Type 0
TurnsKeepLayouts = (h : Shape) (i : ℕ) (s : Layout) (m : Map) → KeepsRulesIn h → i < parts_in h →
    IsSound h s → HasPairs h s m →
    let left = (turn_of h i s).left in IsSound h left × HasPairs h left m

-- a scan finds as many pairs as it wants of those whose keys are not below its first one
abbrev pub ScansFindPairs : Type 0
ScansFindPairs = (h : Shape) (c from wanted : ℕ) (s : Layout) (m : Map) → IsSound h s →
    HasPairs h s m → All (λ pair. pair.0 ≤ greatest_key) m → from ≤ greatest_key →
    (scan h c from wanted s).pairs ≡ take wanted (filter (λ pair. nat_le from pair.0) m)
