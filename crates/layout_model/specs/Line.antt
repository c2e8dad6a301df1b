-- The lines of a replay that are not skipped.
use Rattle.std.specs.Prelude.{ℕ}

-- a line: the caller's number comes first, and then its key; a turn has its keeper's number
pub data Line : Type 0 where
  Get : (caller key : ℕ) → Line
  Put : (caller key value : ℕ) → Line
  Remove : (caller key : ℕ) → Line
  Scan : (caller from count : ℕ) → Line
  Hold : (caller : ℕ) → Line
  Free : (caller : ℕ) → Line
  Probes : (caller : ℕ) → Line
  MakeTurn : (keeper : ℕ) → Line
  ShowLayout : Line
