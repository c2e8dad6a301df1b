use Rattle.std.specs.Prelude.{◌≡◌, ◌≢◌, ℕ, ◌+◌, ◌-◌, ◌*◌, ◌^◌, ◌≤◌, List, [], ◌∷◌, length}
use Rattle.std.specs.List.{AllByRecursion}
use Rattle.wire_commands.specs.Words.{BeginsWith}

-- one of the ASCII digits
abbrev pub IsDigit : ℕ → Type 0
IsDigit byte = (48 ≤ byte) × (byte ≤ 57)

-- one digit or more, and nothing else
abbrev pub IsNumber : List ℕ → Type 0
IsNumber word = (word ≢ []) × AllByRecursion IsDigit word

-- the number that digits stand for: each counts ten times the one to its right
abbrev pub value_of : List ℕ → ℕ
value_of [] = 0
value_of (digit ∷ digits) = (digit - 48) * 10 ^ length digits + value_of digits

-- the first word of the line is a number of this value, and this is what follows it
pub record BeginsWithNumber (line : List ℕ) (value : ℕ) (rest : List ℕ) : Type 0 where
  pub word : List ℕ
  pub begins : BeginsWith line word rest
  pub is_number : IsNumber word
  pub value_is : value_of word ≡ value
