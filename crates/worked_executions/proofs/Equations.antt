-- Equations of numbers and of what may be one, as types with names of their own.
use Rattle.std.proofs.Common.{◌≡◌, ℕ, Option}

abbrev pub Same : ℕ → ℕ → Type 0
Same a b = a ≡ b

abbrev pub SameOption : Option ℕ → Option ℕ → Type 0
SameOption a b = a ≡ b
