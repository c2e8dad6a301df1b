-- What the tests say of a caller in the lane of a key, and of the row that it is to link there.
use Rattle.std.specs.Prelude.{◌≡◌, ℕ, true}
use Rattle.word_layout.specs.declared.places.Part.TheVariants.{Link}
use Rattle.word_layout.specs.Words.{PlaceWord}
use Rattle.index_machine.specs.Conditions.{Valid}
use Rattle.index_machine.specs.Lanes.{HasLane}
use Rattle.index_machine.specs.Reaching.{saw_open}
use Rattle.index_machine.specs.Words.{word}
use Rattle.index_rule.specs.declared.board.Board.{Board}
use Rattle.index_rule.specs.declared.hand.Hand.{Hand}
use Rattle.index_rule.specs.Buffers.{IsFilled, key_in}
use Rattle.index_rule.specs.Elsewhere.{HasNoneWhereSeenOpen}
use Rattle.index_rule.specs.Hands.{known, opening_of}
use Rattle.delta_buffer.specs.Inserting.{CanInsert}
use Rattle.sorted_group.specs.declared.answers.Lane.{Lane}
use Rattle.sorted_group.specs.Standing.{CanSearch}
use Rattle.index_tests.specs.Boards.{IsInGroupOf}

-- the caller with this number can search the buffer of the lane's group, and the key is of the lane
pub record IsInLaneOf (b : Board) (number : ℕ) (lane : Lane) (key : ℕ) (h : Hand) : Type 0 where
  pub numbered : h.number ≡ number
  pub search : CanSearch b lane.group h
  pub has : HasLane (opening_of b) lane.group lane.number key (known h)

-- the caller has a row of its own that is filled with the key
pub record HasRowFor (b : Board) (key place : ℕ) (h : Hand) : Type 0 where
  pub filled : IsFilled (opening_of b) h.number place
      (word (opening_of b) (known h) (PlaceWord place Link)) (known h)
  pub has_key : key_in (opening_of b) place (known h) ≡ key

-- the caller came to the key's group with such a row, saw it open, and the key is not in its array
pub record HasComeToLink (b : Board) (number group key place : ℕ) (h : Hand) : Type 0 where
  pub in_group : IsInGroupOf b number group key h
  pub row : HasRowFor b key place h
  pub seen : saw_open h.number group (known h) ≡ true
  pub valid : Valid (opening_of b) (known h)
  pub elsewhere : HasNoneWhereSeenOpen (opening_of b) h.number key group (known h)

-- the caller can link its row into the lane between these two places
pub record CanLink (b : Board) (number : ℕ) (lane : Lane) (place before next : ℕ) (h : Hand) : Type 0 where
  pub numbered : h.number ≡ number
  pub search : CanSearch b lane.group h
  pub may : CanInsert (opening_of b) h.number lane.group lane.number place before next (known h)
