-- What a turn of a keeper answers. Where nobody else steps, it meets no lock and loses no exchange.
use Rattle.std.specs.Prelude.{ℕ}

-- the answer, with the numbers that are printed of it
pub data Turn : Type 0 where
  Looked : ℕ → Turn
  Frozen : ℕ → Turn
  Waiting : ℕ → Turn
  Quiet : ℕ → Turn
  Opened : ℕ → Turn
  Thawed : ℕ → ℕ → Turn
  Installed : ℕ → Turn
  Copied : ℕ → Turn
  Reclaimed : ℕ → ℕ → Turn
  RootBuilt : ℕ → Turn
