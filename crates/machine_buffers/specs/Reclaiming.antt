-- What stays of a buffer while its rows are taken out.
--
-- The fact to remember: a row that is taken out leaves the words of the lanes and the links of all other rows as
-- they are, so these still lead to the rows that were linked, one after another.
use Rattle.std.specs.Prelude.{◌≡◌, ◌≢◌, ◌⊎◌, ℕ, ◌<◌, Some, [], ◌∷◌, ◌++◌}
use Rattle.map_model.specs.Map.{look}
use Rattle.word_layout.specs.declared.headers.HeaderWord.TheVariants as header
use Rattle.word_layout.specs.declared.places.Part.TheVariants.{Link}
use Rattle.word_layout.specs.Words.{Header, PlaceWord}
use Rattle.index_machine.specs.declared.events.Action.{Action}
use Rattle.index_machine.specs.declared.events.Action.TheVariants.{Retire, StoreHeader}
use Rattle.index_machine.specs.declared.opening.Opening.{Opening}
use Rattle.index_machine.specs.Execution.{Execution}
use Rattle.index_machine.specs.Words.{word}
use Rattle.index_machine.specs.Lanes.{HasLane, cut, lanes}
use Rattle.index_machine.specs.Rows.{InBuffer, role}
use Rattle.index_machine.specs.Conditions.{Valid}
use Rattle.machine_readers.specs.Buffers.{rows}
use Rattle.machine_buffers.specs.Groups.{IsOutOfUse}
use Rattle.machine_buffers.specs.Lanes.{IsLinkedLane, buffer_lane, first_row, next_row_behind}
use Rattle.machine_buffers.specs.Walks.{BeginsNever, IsWalkable, RefillsLanes}

-- ---- the words of lanes ----

-- the header says which lanes the group's buffer has, and each head leads to the first row that was linked into
-- its lane since the group was begun
pub record HasLaneWords (o : Opening) (group : ℕ) (t : Execution) : Type 0 where
  pub lanes_word : word o t (Header group header.Lanes) ≡ lanes o group t
  pub cut_words : (lane : ℕ) → lane < lanes o group t →
      word o t (Header group (header.Cut lane)) ≡ cut o group lane t
  pub heads : (lane : ℕ) → lane < lanes o group t →
      word o t (Header group (header.Head lane))
      ≡ first_row (buffer_lane o group lane t) (rows group t)

-- none of these events refills a word of the group's lanes
abbrev pub RefillsLanesNever : ℕ → Execution → Type 0
RefillsLanesNever group [] = Unit {0}
RefillsLanesNever group (e ∷ newer) =
    (RefillsLanes group e.action → ⊥) × RefillsLanesNever group newer

-- ---- one lane ----

-- the action takes a row out of the lane, or refills its head
abbrev pub TakesLaneApart : Opening → ℕ → ℕ → Action → Execution → Type 0
TakesLaneApart o group lane action t =
    ((k : ℕ) × (place : ℕ) × (next : ℕ) × (action ≡ Retire place next)
    × (role o place t ≡ InBuffer group k) × HasLane o group lane k t)
    ⊎ ((value : ℕ) × (action ≡ StoreHeader group (header.Head lane) value))

-- none of the newer events does
abbrev pub IsLaneLeftWhole : Opening → ℕ → ℕ → Execution → Execution → Type 0
IsLaneLeftWhole o group lane [] t = Unit {0}
IsLaneLeftWhole o group lane (e ∷ newer) t =
    (TakesLaneApart o group lane e.action (newer ++ t) → ⊥)
    × IsLaneLeftWhole o group lane newer t

-- ---- one row ----

-- none of these events takes the row at this place out of its buffer
abbrev pub RetiresNever : ℕ → Execution → Type 0
RetiresNever place [] = Unit {0}
RetiresNever place (e ∷ newer) =
    ((next : ℕ) → e.action ≢ Retire place next) × RetiresNever place newer

-- ---- the whole buffer ----

-- after the newer events each head leads to the first row that its lane had before them, and each row that was
-- not taken out stands where it was and leads to the one that was next
pub record LeadsAsBefore (o : Opening) (group : ℕ) (newer t : Execution) : Type 0 where
  pub heads : (lane : ℕ) → lane < lanes o group t → RefillsLanesNever group newer →
      word o (newer ++ t) (Header group (header.Head lane))
      ≡ first_row (buffer_lane o group lane t) (rows group t)
  pub standing : (k place : ℕ) → look (rows group t) k ≡ Some place → RetiresNever place newer →
      role o place (newer ++ t) ≡ InBuffer group k
  pub links : (lane k place : ℕ) → look (rows group t) k ≡ Some place →
      HasLane o group lane k t → RetiresNever place newer →
      word o (newer ++ t) (PlaceWord place Link)
      ≡ next_row_behind (buffer_lane o group lane t) k (rows group t)

-- ---- the laws, over all executions ----

-- the header of a walkable buffer has its lanes' words
abbrev pub WalkableBuffersHaveLaneWords : Type 0
WalkableBuffersHaveLaneWords =
    (o : Opening) (group : ℕ) (t : Execution) → IsWalkable o group t → HasLaneWords o group t

-- it has them until one is refilled, whatever rows are linked and taken out
abbrev pub LaneWordsStay : Type 0
LaneWordsStay =
    (o : Opening) (group : ℕ) (newer t : Execution) → Valid o (newer ++ t) →
    RefillsLanesNever group newer → HasLaneWords o group t → HasLaneWords o group (newer ++ t)

-- a linked lane stays linked until a row of it is taken out, its head refilled, or the group begun anew
abbrev pub WholeLanesStayLinked : Type 0
WholeLanesStayLinked =
    (o : Opening) (group lane : ℕ) (newer t : Execution) → Valid o (newer ++ t) →
    BeginsNever group newer → IsLaneLeftWhole o group lane newer t → lane < lanes o group t →
    IsLinkedLane o (buffer_lane o group lane t) t →
    IsLinkedLane o (buffer_lane o group lane t) (newer ++ t)

-- a row stands in its buffer until it is taken out itself
abbrev pub RowsStandUntilRetired : Type 0
RowsStandUntilRetired =
    (o : Opening) (group k place : ℕ) (newer t : Execution) → Valid o (newer ++ t) →
    RetiresNever place newer → role o place t ≡ InBuffer group k →
    role o place (newer ++ t) ≡ InBuffer group k

-- none is linked into the buffer of a group that is out of use, and it stays out of use, until it is begun anew
abbrev pub NoneIsLinkedOutOfUse : Type 0
NoneIsLinkedOutOfUse =
    (o : Opening) (group : ℕ) (newer t : Execution) → Valid o (newer ++ t) →
    BeginsNever group newer → IsOutOfUse o group t →
    (rows group (newer ++ t) ≡ rows group t) × IsOutOfUse o group (newer ++ t)

-- so from the moment on at which all rows stand in the buffer of a group that is out of use, its links lead as
-- they did then
abbrev pub LinksLeadAsBefore : Type 0
LinksLeadAsBefore =
    (o : Opening) (group : ℕ) (newer t : Execution) → Valid o (newer ++ t) →
    BeginsNever group newer → IsWalkable o group t → IsOutOfUse o group t →
    LeadsAsBefore o group newer t
