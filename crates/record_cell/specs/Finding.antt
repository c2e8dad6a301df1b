-- Where the record of a place is found.
use Rattle.std.specs.Prelude.{◌≡◌, ◌⊎◌, ℕ, true, Some, [], ◌∷◌}
use Rattle.word_layout.specs.State.{word_of_state}
use Rattle.word_layout.specs.declared.state.State.TheVariants.{Redirect, Moved}
use Rattle.index_machine.specs.declared.events.Action.TheVariants.{LoadState}
use Rattle.index_machine.specs.declared.opening.Opening.{Opening}
use Rattle.index_machine.specs.Execution.{Execution}
use Rattle.index_machine.specs.Forms.{state_word}
use Rattle.index_machine.specs.Forms.{Redirect as Forwards}
use Rattle.index_machine.specs.Places.{form, IsInGroup}
use Rattle.index_machine.specs.Reaching.{stands_in}
use Rattle.index_machine.specs.RecordConditions.{IsAt, HoldsNoLock}
use Rattle.index_machine.specs.Rows.{role, role_key}
use Rattle.machine_buffers.specs.Groups.{IsKeyOf}
use Rattle.index_rule.specs.declared.board.Board.{Board}
use Rattle.index_rule.specs.declared.hand.Hand.{Hand}
use Rattle.index_rule.specs.Hands.{IsHandOf, Makes, MakesAll, known, opening_of}
use Rattle.record_cell.specs.Conditions.{IsRecordWord}

-- ---- where the caller is ----

-- the place is of a group where the caller stands: in its array, or a row of its buffer that the
-- caller reached
pub record IsAtOwn (o : Opening) (hand place : ℕ) (t : Execution) : Type 0 where
  pub there : IsAt o hand place t
  pub group : ℕ
  pub key : ℕ
  pub stands : stands_in hand group t ≡ true
  pub in_group : IsInGroup o t group key place
  -- else the record could have been copied away from there
  pub of_key : IsKeyOf o group key t

-- the hand is of the board, is at the place inside its read section, and holds no version lock
pub record IsReadyAt (b : Board) (h : Hand) (place : ℕ) : Type 0 where
  pub of : IsHandOf b h
  pub at_own : IsAtOwn (opening_of b) h.number place (known h)
  pub holds_none : HoldsNoLock (opening_of b) h.number (known h)

-- likewise, but the place may be one to which another forwarded
pub record CanStepAt (b : Board) (h : Hand) (place : ℕ) : Type 0 where
  pub of : IsHandOf b h
  pub there : IsAt (opening_of b) h.number place (known h)
  pub holds_none : HoldsNoLock (opening_of b) h.number (known h)

-- the place is a forwarding pointer to this one
abbrev pub ForwardsTo : Opening → ℕ → ℕ → Execution → Type 0
ForwardsTo o place to t = (value : ℕ) × (form o place t ≡ Forwards to value)

-- ---- the steps of finding it ----

-- the hand loaded the state word at the place that a forwarding pointer named; or, where that was
-- copied away, at the first place again
abbrev pub FollowsPointer : Board → Hand → ℕ → ℕ → ℕ → ℕ → Hand → Type 0
FollowsPointer b h place to at word k =
    ((at ≡ to) × Makes b h (LoadState to word) k)
    ⊎ ((at ≡ place)
    × MakesAll b h (LoadState place word ∷ LoadState to (word_of_state Moved) ∷ []) k)

-- the hand loaded this state word of the record: at the place, or where it forwards to
abbrev pub Finds : Board → Hand → ℕ → ℕ → ℕ → Hand → Type 0
Finds b h place at word k =
    ((at ≡ place) × Makes b h (LoadState place word) k)
    ⊎ ((to : ℕ) × (m : Hand) × Makes b h (LoadState place (word_of_state (Redirect to))) m
    × FollowsPointer b m place to at word k)

-- ---- what was found ----

-- where the record was found is a place of the key that the first place had
abbrev pub HasSameKey : Board → Hand → ℕ → ℕ → Hand → Type 0
HasSameKey b h place at k =
    (key : ℕ) × (role_key (role (opening_of b) place (known h)) ≡ Some key)
    × (role_key (role (opening_of b) at (known k)) ≡ Some key)

-- the record is at this place, and this is its state word
pub record IsFoundAt (b : Board) (h : Hand) (place at word : ℕ) (k : Hand) : Type 0 where
  pub steps : Finds b h place at word k
  pub says : state_word (form (opening_of b) at (known k)) ≡ word
  pub is_record : IsRecordWord word
  pub same_key : HasSameKey b h place at k
