-- Replays with two parts, worked out by hand.
use Rattle.std.specs.Prelude.{[], ◌∷◌, ℕ}
use Rattle.word_layout.specs.Shape.{Shape, shape}
use Rattle.layout_model.specs.Line.{MakeTurn, Put, Scan}
use Rattle.layout_model.specs.Phase as phase
use Rattle.layout_model.specs.Scripts.{PlaysFrom, says, shows, small}
use Rattle.layout_model.specs.Told.{AgainFrozen, End, FreeLine, GroupLine, New, Row, TurnMade}
use Rattle.layout_model.specs.Turn as turn

-- the least key of the second of two even parts
abbrev pub half : ℕ
half = 9223372036854775808

-- two even parts of a small index
abbrev pub two_parts : Shape
two_parts = shape (small 2 100 4 1) (half ∷ [])

-- each part is rebuilt by its own keeper, whatever the other has come to, and a scan goes through both
abbrev pub PartsAreRebuiltApart : Type 0
PartsAreRebuiltApart = PlaysFrom two_parts []
    (says (Put 0 5 50) New ∷ says (Put 0 half 70) New
    ∷ says (MakeTurn 0) (TurnMade (turn.Frozen 0)) ∷ says (MakeTurn 1) (TurnMade (turn.Frozen half))
    ∷ says (Put 0 6 60) AgainFrozen ∷ says (MakeTurn 1) (TurnMade (turn.Quiet 1))
    ∷ says (MakeTurn 1) (TurnMade (turn.Opened 1)) ∷ says (Put 0 9223372036854775809 71) New
    ∷ says (Put 0 6 60) AgainFrozen ∷ says (MakeTurn 0) (TurnMade (turn.Quiet 1))
    ∷ shows
    (GroupLine 0 0 0 1 phase.Frozen ∷ GroupLine half 0 0 1 phase.Opened ∷ FreeLine 97 5 ∷ [])
    ∷ (Scan 0 0 9, Row 5 50 ∷ Row half 70 ∷ Row 9223372036854775809 71 ∷ End 3 ∷ []) ∷ [])
