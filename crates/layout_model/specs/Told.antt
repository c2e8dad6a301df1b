-- The lines that a replay writes.
use Rattle.std.specs.Prelude.{ℕ}
use Rattle.layout_model.specs.Phase.{Phase}
use Rattle.layout_model.specs.Turn.{Turn}

-- a line of the output, with what is printed of it
pub data Told : Type 0 where
  Value : (value : ℕ) → Told
  NoValue : Told
  New : Told
  Old : (value : ℕ) → Told
  Full : Told
  Worn : Told
  AgainFrozen : Told
  Row : (key value : ℕ) → Told
  End : (rows : ℕ) → Told
  Held : Told
  Freed : Told
  Probes : (compared : ℕ) → Told
  TurnMade : Turn → Told
  GroupLine : (pivot size removed rows : ℕ) → Phase → Told
  FreeLine : (rows groups : ℕ) → Told
