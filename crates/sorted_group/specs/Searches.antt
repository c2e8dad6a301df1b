-- What a search for a key in a plain list of keys answers.
use Rattle.std.specs.Prelude.{◌≡◌, ◌≢◌, ℕ, ◌<◌, List, length, slice_index, Result, Ok, Err}
use Rattle.line_window.specs.Search.{count_below}

-- the key is at this index of the list
pub record IsAtIndex (keys : List ℕ) (key index : ℕ) : Type 0 where
  pub within : index < length keys
  pub is : slice_index keys index ≡ key

-- the key is at no index of the list
abbrev pub IsMissing : List ℕ → ℕ → Type 0
IsMissing keys key = (index : ℕ) → index < length keys → slice_index keys index ≢ key

-- the key is at the index before which the smaller keys are, or this is how many there are and it is missing
abbrev pub FindsIndex : List ℕ → ℕ → Result ℕ ℕ → Type 0
FindsIndex keys key (Ok index) = (index ≡ count_below keys key) × IsAtIndex keys key index
FindsIndex keys key (Err index) = (index ≡ count_below keys key) × IsMissing keys key
