-- What a call knows once it looked for the key in the sorted array of its group.
use Rattle.std.specs.Prelude.{◌≡◌, ℕ, ◌+◌, min}
use Rattle.line_window.specs.Search.{probes_of}
use Rattle.index_machine.specs.Execution.{Continues}
use Rattle.index_machine.specs.Rows.{InArray, role}
use Rattle.machine_arrays.specs.Arrays.{array_keys}
use Rattle.index_rule.specs.declared.board.Board.{Board}
use Rattle.index_rule.specs.declared.hand.Hand.{Hand}
use Rattle.index_rule.specs.Hands.{known, opening_of}
use Rattle.root_table.specs.Finding.{FindsGroup}
use Rattle.point_calls.specs.Exchanges.{MakesFewExchanges, no_exchange}
use Rattle.point_calls.specs.Places.{IsAtPlaceOf, IsInGroupFor}

-- the call goes on in its group, where it looked for the key in the array; it tried no exchange
pub record HasSearched (b : Board) (start h : Hand) (group key : ℕ) (k : Hand) : Type 0 where
  pub there : IsInGroupFor b start k group key
  pub since : Continues (known h) (known k)
  pub exchanges : MakesFewExchanges no_exchange h k

-- it came to the place of the array that has the key
pub record IsAtArrayPlace (b : Board) (start k : Hand) (group key place : ℕ) : Type 0 where
  pub at : IsAtPlaceOf b start k key place
  pub array : role (opening_of b) place (known k) ≡ InArray group key

-- the count of probes rose by those that find the key among the keys of the group's array, as far as it can
abbrev pub CountsProbes : Board → ℕ → ℕ → Hand → ℕ → ℕ → Type 0
CountsProbes b group key h old new =
    new ≡ min (old + probes_of (array_keys (opening_of b) group (known h)) key) 18446744073709551615

-- by these loads the call came to the group of the key, and the count rose by the probes in the array there
pub record CountsOnce (b : Board) (key : ℕ) (h : Hand) (old new : ℕ) : Type 0 where
  pub group : ℕ
  pub there : Hand
  pub finds : FindsGroup b key h group there
  pub counts : CountsProbes b group key there old new
