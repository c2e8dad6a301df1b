-- A number in two halves.
use Rattle.std.specs.Prelude.{ℕ, ◌+◌, ◌*◌, ◌^◌}

-- the number that has these halves of 32 bits
abbrev pub whole : ℕ → ℕ → ℕ
whole high low = high * 2 ^ 32 + low
