-- What taking and filling a row do.
use Rattle.std.specs.Prelude.{◌≡◌, ◌≢◌, ℕ, false, [], ◌∷◌}
use Rattle.word_layout.specs.declared.places.Part.TheVariants.{Key, Value, State}
use Rattle.word_layout.specs.declared.state.State.TheVariants.{Direct}
use Rattle.word_layout.specs.State.{word_of_state}
use Rattle.word_layout.specs.Words.{PlaceWord}
use Rattle.index_machine.specs.declared.events.Action.TheVariants.{LoadFree, LoadFreeLink}
use Rattle.index_machine.specs.declared.events.Action.TheVariants.{PopFree, FailPop, StorePrivate}
use Rattle.index_machine.specs.declared.opening.Opening.{Opening}
use Rattle.index_machine.specs.Execution.{Execution}
use Rattle.index_machine.specs.Rows.{Holds, HoldsNone}
use Rattle.index_machine.specs.Words.{limits, word}
use Rattle.index_rule.specs.declared.board.Board.{Board}
use Rattle.index_rule.specs.declared.hand.Hand.{Hand}
use Rattle.index_rule.specs.Hands.{MakesAll, known, opening_of}
use Rattle.index_rule.specs.OwnRows.{place_of_private}
use Rattle.row_arena.specs.declared.taking.Taken.{Taken}
use Rattle.row_arena.specs.declared.taking.Taken.TheVariants as taken

-- the steps of a take, the newest first: the head is loaded and, unless it is 0, its link is loaded
-- and the head exchanged once
abbrev pub TakesRow : Board → Hand → Taken → Hand → Type 0
TakesRow b h (taken.Row row) k =
    (place_of_private row ≢ 0) × ((next : ℕ) × MakesAll b h (PopFree (place_of_private row) next
    ∷ LoadFreeLink (place_of_private row) next ∷ LoadFree (place_of_private row) ∷ []) k)
TakesRow b h taken.Empty k = MakesAll b h (LoadFree 0 ∷ []) k
TakesRow b h (taken.Raced expected found) k =
    (expected ≢ 0) × (expected ≢ found) × ((next : ℕ) × MakesAll b h (FailPop expected found
    ∷ LoadFreeLink expected next ∷ LoadFree expected ∷ []) k)

-- the hand holds the row that it took, and else none
abbrev pub HoldsTaken : Opening → ℕ → Taken → Execution → Type 0
HoldsTaken o hand (taken.Row row) t = Holds o hand (place_of_private row) t
HoldsTaken o hand taken.Empty t = HoldsNone o hand t
HoldsTaken o hand (taken.Raced expected found) t = HoldsNone o hand t

-- the state word of a record of the first version
abbrev pub first_state : Opening → ℕ
first_state o = word_of_state (Direct (limits o).first_version false false)

-- the hand filled the row, which is still its own
pub record Fills (b : Board) (h : Hand) (place key value : ℕ) (k : Hand) : Type 0 where
  pub steps : MakesAll b h (StorePrivate place State (first_state (opening_of b))
      ∷ StorePrivate place Value value ∷ StorePrivate place Key key ∷ []) k
  pub held : Holds (opening_of b) k.number place (known k)
  pub key_word : word (opening_of b) (known k) (PlaceWord place Key) ≡ key
  pub value_word : word (opening_of b) (known k) (PlaceWord place Value) ≡ value
  pub state_word : word (opening_of b) (known k) (PlaceWord place State)
      ≡ first_state (opening_of b)
