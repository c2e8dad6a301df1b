-- What a search in a lane of a buffer finds.
use Rattle.std.specs.Prelude.{◌≡◌, ◌≢◌, ◌⊎◌, ℕ, ◌<◌, ◌≤◌, true, Option, Some, None}
use Rattle.map_model.specs.Map.{look}
use Rattle.index_machine.specs.declared.opening.Opening.{Opening}
use Rattle.index_machine.specs.Execution.{Execution}
use Rattle.index_machine.specs.Lanes.{HasLane}
use Rattle.index_machine.specs.Words.{link_behind, word}
use Rattle.index_machine.specs.Rows.{InBuffer, role}
use Rattle.index_machine.specs.Reaching.{reached}
use Rattle.machine_readers.specs.Buffers.{rows}
use Rattle.machine_buffers.specs.Walks.{IsLinkBefore}
use Rattle.index_rule.specs.declared.board.Board.{Board}
use Rattle.index_rule.specs.declared.hand.Hand.{Hand}
use Rattle.index_rule.specs.Buffers.{IsBehindKey}
use Rattle.index_rule.specs.Hands.{known, opening_of}
use Rattle.index_rule.specs.Moments.{IsWithin}
use Rattle.delta_buffer.specs.declared.answers.Found.{Found}
use Rattle.delta_buffer.specs.declared.answers.Found.TheVariants as found
use Rattle.delta_buffer.specs.Walks.{HasJustMade, load_of_link}

-- the place is the row of the key, and the caller came to it by a link
abbrev pub IsReachedRow : Opening → ℕ → ℕ → ℕ → ℕ → Execution → Type 0
IsReachedRow o hand group key place t =
    (role o place t ≡ InBuffer group key) × (reached hand place t ≡ true)

-- the key is in the lane and belongs between these two places: behind a smaller key or the lane's head,
-- and ahead of a greater one or of none
abbrev pub BelongsBetween : Opening → ℕ → ℕ → ℕ → ℕ → ℕ → Execution → Type 0
BelongsBetween o group lane key before next t =
    HasLane o group lane key t × IsLinkBefore o group lane key before t
    × IsBehindKey o group key next t

-- then no key of the lane from this one on had a row: up to below the one that the row `next` has later,
-- or up to the lane's end where this is 0
pub record IsEmptyUpTo (o : Opening) (group lane key next : ℕ) (moment later : Execution)
    : Type 0 where
  pub row : (first : ℕ) → role o next later ≡ InBuffer group first →
      (k : ℕ) → key ≤ k → k < first → look (rows group moment) k ≡ None
  pub end : next ≡ 0 → (k : ℕ) → key ≤ k → HasLane o group lane k later →
      look (rows group moment) k ≡ None

-- the call loaded the link between these two places, and just then the key had no row
pub record FindsGap (b : Board) (group lane key before next : ℕ) (h k : Hand) : Type 0 where
  pub moment : Execution
  pub loaded : HasJustMade h (load_of_link group lane before next) moment
  pub within : IsWithin h k moment
  pub absent : look (rows group moment) key ≡ None
  pub leads : word (opening_of b) moment (link_behind group lane before) ≡ next
  pub empty : IsEmptyUpTo (opening_of b) group lane key next moment (known k)
  pub ahead : next ≢ 0 → reached k.number next (known k) ≡ true
  pub belonged : BelongsBetween (opening_of b) group lane key before next moment
  pub belongs : BelongsBetween (opening_of b) group lane key before next (known k)

-- what the answer tells of the key
abbrev pub Finds : Board → ℕ → ℕ → ℕ → Hand → Found → Hand → Type 0
Finds b group lane key h (found.Row place) k =
    IsReachedRow (opening_of b) k.number group key place (known k)
Finds b group lane key h (found.Gap before next) k = FindsGap b group lane key before next h k

-- the call loaded a link of the lane that led to this place, and this is the moment of the load
abbrev pub LoadsLinkTo : ℕ → ℕ → ℕ → Hand → Hand → Execution → Type 0
LoadsLinkTo group lane place h k moment =
    ((before : ℕ) × HasJustMade h (load_of_link group lane before place) moment)
    × IsWithin h k moment

-- as the link to the row was loaded, no key from this one up to below the row's had a row
abbrev pub FindsNoneUpTo : ℕ → ℕ → ℕ → ℕ → ℕ → Hand → Hand → Type 0
FindsNoneUpTo group lane key first place h k =
    (moment : Execution) × LoadsLinkTo group lane place h k moment
    × ((i : ℕ) → key ≤ i → i < first → look (rows group moment) i ≡ None)

-- as a link to none was loaded, no key of the lane from this one on had a row
abbrev pub FindsNoneFrom : Board → ℕ → ℕ → ℕ → Hand → Hand → Type 0
FindsNoneFrom b group lane key h k =
    (moment : Execution) × LoadsLinkTo group lane 0 h k moment
    × ((i : ℕ) → key ≤ i → HasLane (opening_of b) group lane i (known k) →
    look (rows group moment) i ≡ None)

-- the row is the first one of the lane from the key on, or there was none
abbrev pub FindsFirst : Board → ℕ → ℕ → ℕ → Hand → Option ℕ → Hand → Type 0
FindsFirst b group lane key h (Some place) k =
    (first : ℕ) × IsReachedRow (opening_of b) k.number group first place (known k)
    × ((first ≡ key) ⊎ ((key < first) × FindsNoneUpTo group lane key first place h k))
FindsFirst b group lane key h None k = FindsNoneFrom b group lane key h k
