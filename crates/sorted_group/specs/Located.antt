-- Where a key is in the array of a group, and by which loads it is found.
use Rattle.std.specs.Prelude.{◌≡◌, ◌≢◌, ℕ, ◌+◌, ◌*◌, ◌^◌, ◌≤◌, List, [], ◌∷◌, ◌++◌, length}
use Rattle.line_window.specs.Line.{error_of}
use Rattle.line_window.specs.Search.{count_below}
use Rattle.word_layout.specs.declared.headers.HeaderWord.TheVariants.{LineError, Size}
use Rattle.word_layout.specs.Addresses.{array_address}
use Rattle.index_machine.specs.declared.events.Action.{Action}
use Rattle.index_machine.specs.declared.events.Action.TheVariants.{LoadHeader}
use Rattle.index_machine.specs.Rows.{InArray, role}
use Rattle.index_machine.specs.Words.{shape}
use Rattle.machine_arrays.specs.Arrays.{array_keys}
use Rattle.index_rule.specs.declared.board.Board.{Board}
use Rattle.index_rule.specs.declared.hand.Hand.{Hand}
use Rattle.index_rule.specs.Hands.{MakesAll, known, opening_of}
use Rattle.index_rule.specs.Records.{CanSee}
use Rattle.sorted_group.specs.declared.answers.Located.{Located}
use Rattle.sorted_group.specs.declared.answers.Located.TheVariants.{At, Between}
use Rattle.sorted_group.specs.KeyLoads.{AreKeyLoads}
use Rattle.sorted_group.specs.Searches.{IsAtIndex, IsMissing}

-- ---- the answer ----

-- the keys of the group's array, as the hand knows it
abbrev pub keys_for : Board → ℕ → Hand → List ℕ
keys_for b group k = array_keys (opening_of b) group (known k)

-- how many of them are below a key
abbrev pub smaller_keys : Board → ℕ → ℕ → Hand → ℕ
smaller_keys b group key k = count_below (keys_for b group k) key

-- the place is that of the key in the group's array, behind all smaller keys, and the hand can see it
pub record IsPlaceOf (b : Board) (group key place : ℕ) (k : Hand) : Type 0 where
  pub listed : IsAtIndex (keys_for b group k) key (smaller_keys b group key k)
  pub address : place ≡ array_address (shape (opening_of b)) group (smaller_keys b group key k)
  pub role : role (opening_of b) place (known k) ≡ InArray group key
  pub sees : CanSee (opening_of b) k.number place (known k)

-- the array has no place for the key, and this many smaller keys
pub record IsNowhere (b : Board) (group key index : ℕ) (k : Hand) : Type 0 where
  pub missing : IsMissing (keys_for b group k) key
  pub none : (place : ℕ) → role (opening_of b) place (known k) ≢ InArray group key
  pub smaller : index ≡ smaller_keys b group key k

-- the answer says where the key is
abbrev pub IsLocated : Board → ℕ → ℕ → Located → Hand → Type 0
IsLocated b group key (At place) k = IsPlaceOf b group key place k
IsLocated b group key (Between index) k = IsNowhere b group key index k

-- ---- the loads ----

-- so few loads of keys of the group's array that doubling as often gives at most 32 times what the line is off and
-- one more
pub record FewKeyLoads (b : Board) (group error : ℕ) (h k : Hand) : Type 0 where
  pub keys : List Action
  pub are : AreKeyLoads (opening_of b) group keys
  pub few : 2 ^ length keys ≤ 32 * error + 32
  pub makes : MakesAll b h keys k

-- the hand loaded the size and the error of the line, and then few keys
pub record LoadsToLocate (b : Board) (group : ℕ) (h k : Hand) : Type 0 where
  pub keys : List Action
  pub are : AreKeyLoads (opening_of b) group keys
  pub few : 2 ^ length keys ≤ 32 * error_of (keys_for b group k) + 32
  pub makes : MakesAll b h (keys ++ (LoadHeader group LineError (error_of (keys_for b group k))
      ∷ LoadHeader group Size (length (keys_for b group k)) ∷ [])) k
