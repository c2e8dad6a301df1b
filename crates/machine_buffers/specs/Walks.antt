-- What a walk along the link words of a buffer meets.
--
-- The fact to remember: a link before a key that leads to no row, or to one with a greater key, says
-- that the key had no row when the link was loaded.
use Rattle.std.specs.Prelude.{◌≡◌, ◌⊎◌, ℕ, ◌+◌, ◌<◌, ◌≤◌, true, Some, None, [], ◌∷◌, ◌++◌}
use Rattle.map_model.specs.Map.{IsRising, look}
use Rattle.word_layout.specs.declared.headers.HeaderWord.{HeaderWord}
use Rattle.word_layout.specs.declared.headers.HeaderWord.TheVariants as header
use Rattle.word_layout.specs.declared.places.Part.TheVariants as part
use Rattle.word_layout.specs.Headers.{most_lanes}
use Rattle.word_layout.specs.Words.{Header, PlaceWord}
use Rattle.index_machine.specs.declared.opening.Opening.{Opening}
use Rattle.index_machine.specs.Execution.{Execution}
use Rattle.index_machine.specs.Words.{word, link_behind}
use Rattle.index_machine.specs.Lanes.{HasLane, begun_word, cut, lanes}
use Rattle.index_machine.specs.Sections.{IsCaller, StaysInside}
use Rattle.index_machine.specs.Rows.{InBuffer, role}
use Rattle.index_machine.specs.declared.events.Action.{Action}
use Rattle.index_machine.specs.declared.events.Action.TheVariants.{Retire, StoreHeader}
use Rattle.index_machine.specs.KeyRanges.{group_of, predecessor}
use Rattle.word_layout.specs.Parts.{greatest_key}
use Rattle.index_machine.specs.Permissions.{IsReplaced}
use Rattle.index_machine.specs.Reaching.{stands_in}
use Rattle.index_machine.specs.RecordConditions.{IsLinkInto}
use Rattle.index_machine.specs.Conditions.{Valid}
use Rattle.machine_readers.specs.Buffers.{rows}
use Rattle.machine_buffers.specs.Lanes.{IsLinkedLane, buffer_lane, first_row, next_row_behind}
use Rattle.machine_buffers.specs.Groups.{IsOfAKey, Begins, IsKeyAtSomeStage, IsKeyOf, IsOutOfUse}

-- ---- lanes ----

-- the cuts of the group's lanes rise, and there are at most eight
pub record AreRisingLanes (o : Opening) (group : ℕ) (t : Execution) : Type 0 where
  pub few : lanes o group t ≤ most_lanes
  pub rising : (i : ℕ) → i + 1 < lanes o group t → cut o group i t < cut o group (i + 1) t

-- the header word is one of the lanes: their number, or a lane's cut or head
abbrev pub IsLaneWord : HeaderWord → Type 0
IsLaneWord header.Lanes = Unit {0}
IsLaneWord (header.Head lane) = Unit {0}
IsLaneWord (header.Cut lane) = Unit {0}
IsLaneWord _ = ⊥

-- ---- rows ----

-- the link of a row leads to the row with the next key of its lane among those linked since the group was
-- begun, or to none
abbrev pub LinksLeadOn : Opening → Execution → Type 0
LinksLeadOn o t =
    (group lane k place : ℕ) → role o place t ≡ InBuffer group k → HasLane o group lane k t →
    word o t (PlaceWord place part.Link)
    ≡ next_row_behind (buffer_lane o group lane t) k (rows group t)

-- a walk through each lane of the buffer meets its rows: the header says which lanes there are, each head
-- leads to the first row of its lane, and all rows that were linked stand in the buffer
pub record IsWalkable (o : Opening) (group : ℕ) (t : Execution) : Type 0 where
  pub lanes_word : word o t (Header group header.Lanes) ≡ lanes o group t
  pub cut_words : (lane : ℕ) → lane < lanes o group t →
      word o t (Header group (header.Cut lane)) ≡ cut o group lane t
  pub heads : (lane : ℕ) → lane < lanes o group t →
      word o t (Header group (header.Head lane))
      ≡ first_row (buffer_lane o group lane t) (rows group t)
  pub standing : (k place : ℕ) → look (rows group t) k ≡ Some place →
      role o place t ≡ InBuffer group k

-- the action refills a word of the group's lanes
abbrev pub RefillsLanes : ℕ → Action → Type 0
RefillsLanes group action =
    (which : HeaderWord) × (value : ℕ) × (action ≡ StoreHeader group which value) × IsLaneWord which

-- the action takes a row out of the buffer, or refills a word of its lanes
abbrev pub TakesApart : Opening → ℕ → Action → Execution → Type 0
TakesApart o group action t =
    ((k : ℕ) × (place : ℕ) × (next : ℕ) × (action ≡ Retire place next)
    × (role o place t ≡ InBuffer group k))
    ⊎ RefillsLanes group action

-- none of the newer events takes the buffer apart
abbrev pub IsLeftWhole : Opening → ℕ → Execution → Execution → Type 0
IsLeftWhole o group [] t = Unit {0}
IsLeftWhole o group (e ∷ newer) t =
    (TakesApart o group e.action (newer ++ t) → ⊥) × IsLeftWhole o group newer t

-- none of these events begins the group anew
abbrev pub BeginsNever : ℕ → Execution → Type 0
BeginsNever group [] = Unit {0}
BeginsNever group (e ∷ newer) = (Begins group e.action → ⊥) × BeginsNever group newer

-- ---- links ----

-- the link behind this place stands before the key: it is the head of the lane, or that of a row of the lane
-- with a smaller key
abbrev pub IsLinkBefore : Opening → ℕ → ℕ → ℕ → ℕ → Execution → Type 0
IsLinkBefore o group lane k before t =
    (before ≡ 0)
    ⊎ ((j : ℕ) × (role o before t ≡ InBuffer group j) × HasLane o group lane j t × (j < k))

-- what a link of the lane that leads to this place says of a key
pub record Decides (o : Opening) (group lane k place : ℕ) (t : Execution) : Type 0 where
  -- no row: the key has none
  pub none : place ≡ 0 → look (rows group t) k ≡ None
  -- a row with a greater key: the key has none
  pub greater : (j : ℕ) → role o place t ≡ InBuffer group j → k < j →
      look (rows group t) k ≡ None
  -- the row of the key
  pub found : role o place t ≡ InBuffer group k → look (rows group t) k ≡ Some place
  -- a row with a smaller key: its link stands before the key
  pub smaller : (j : ℕ) → role o place t ≡ InBuffer group j → j < k →
      IsLinkBefore o group lane k place t

-- ---- the laws of lanes, over all executions ----

-- the cuts of a group's lanes rise
abbrev pub CutsRise : Type 0
CutsRise = (o : Opening) (t : Execution) → Valid o t → (group : ℕ) → AreRisingLanes o group t

-- so a key of a later lane is greater
abbrev pub LanesAreInOrder : Type 0
LanesAreInOrder =
    (o : Opening) (t : Execution) → Valid o t → (group lane later k m : ℕ) → lane < later →
    HasLane o group lane k t → HasLane o group later m t → k < m

-- no key is in two lanes
abbrev pub LanesAreApart : Type 0
LanesAreApart =
    (o : Opening) (t : Execution) → Valid o t → (group lane other k : ℕ) →
    HasLane o group lane k t → HasLane o group other k t → lane ≡ other

-- a key between two keys of a lane is in the lane
abbrev pub LanesHaveNoGaps : Type 0
LanesHaveNoGaps =
    (o : Opening) (t : Execution) (group lane low k high : ℕ) → low ≤ k → k ≤ high →
    HasLane o group lane low t → HasLane o group lane high t → HasLane o group lane k t

-- each key of a group, or of which it is the new group, is in one of its lanes (what is no key has the
-- number behind the last group for its group, and that has no lanes)
abbrev pub KeysOfGroupsHaveLanes : Type 0
KeysOfGroupsHaveLanes =
    (o : Opening) (t : Execution) → Valid o t → (group k : ℕ) → k ≤ greatest_key →
    IsKeyAtSomeStage o group k t → (lane : ℕ) × HasLane o group lane k t

-- and so is that of each row
abbrev pub RowsHaveLanes : Type 0
RowsHaveLanes =
    (o : Opening) (t : Execution) → Valid o t → (group k place : ℕ) →
    role o place t ≡ InBuffer group k → (lane : ℕ) × HasLane o group lane k t

-- and that of each row that was linked since the group was begun, whether it was taken out again or not
abbrev pub LinkedRowsHaveLanes : Type 0
LinkedRowsHaveLanes =
    (o : Opening) (t : Execution) → Valid o t → (group k place : ℕ) →
    look (rows group t) k ≡ Some place → (lane : ℕ) × HasLane o group lane k t

-- what a header word held just before its group was begun stays until this is begun anew: so the lanes do; of
-- the pivot, which the beginning itself stores, it is an older word
abbrev pub LanesStayUntilBegun : Type 0
LanesStayUntilBegun =
    (o : Opening) (group : ℕ) (which : HeaderWord) (newer t : Execution) → BeginsNever group newer →
    begun_word o group which (newer ++ t) ≡ begun_word o group which t

-- so they do while a caller stands in the group
abbrev pub LanesStay : Type 0
LanesStay =
    (o : Opening) (caller group : ℕ) (which : HeaderWord) → IsCaller o caller → (newer t : Execution) →
    Valid o (newer ++ t) → StaysInside caller newer → stands_in caller group t ≡ true →
    begun_word o group which (newer ++ t) ≡ begun_word o group which t

-- ---- the laws of rows, over all executions ----

-- the link of a row leads to the row with the next key among those linked into its lane
abbrev pub LinksLeadToTheNextRow : Type 0
LinksLeadToTheNextRow = (o : Opening) (t : Execution) → Valid o t → LinksLeadOn o t

-- the keys of a buffer's rows rise
abbrev pub KeysOfRowsRise : Type 0
KeysOfRowsRise = (o : Opening) (t : Execution) → Valid o t → (group : ℕ) → IsRising (rows group t)

-- each row is of a key of its group, unless the group is out of use
abbrev pub RowsHaveKeysOfTheirGroup : Type 0
RowsHaveKeysOfTheirGroup =
    (o : Opening) (t : Execution) → Valid o t → (group k place : ℕ) →
    role o place t ≡ InBuffer group k → IsKeyOf o group k t ⊎ IsOutOfUse o group t

-- of a group that answers for a key, each row is of a key for which it answers
abbrev pub RowsOfTheChainAreInRange : Type 0
RowsOfTheChainAreInRange =
    (o : Opening) (t : Execution) → Valid o t → (group j k place : ℕ) → group_of o j t ≡ group →
    role o place t ≡ InBuffer group k → group_of o k t ≡ group

-- rows are only added, until the group is begun anew
abbrev pub LinkedRowsStayUntilBegun : Type 0
LinkedRowsStayUntilBegun =
    (o : Opening) (group k place : ℕ) (newer t : Execution) → Valid o (newer ++ t) →
    BeginsNever group newer → look (rows group t) k ≡ Some place →
    look (rows group (newer ++ t)) k ≡ Some place

-- so they are while a caller stands in the group
abbrev pub LinkedRowsStay : Type 0
LinkedRowsStay =
    (o : Opening) (caller group k place : ℕ) → IsCaller o caller → (newer t : Execution) →
    Valid o (newer ++ t) → StaysInside caller newer → stands_in caller group t ≡ true →
    IsWalkable o group t → look (rows group t) k ≡ Some place →
    look (rows group (newer ++ t)) k ≡ Some place

-- ---- the laws of walkable buffers ----

-- the buffer of a group that answers for a key, or that is a key's new group, is walkable
abbrev pub BuffersOfKeysAreWalkable : Type 0
BuffersOfKeysAreWalkable =
    (o : Opening) (t : Execution) → Valid o t → (group : ℕ) → IsOfAKey o group t →
    IsWalkable o group t

-- so is that of the group that had a key before, while a caller stands there
abbrev pub BuffersBeforeAreWalkable : Type 0
BuffersBeforeAreWalkable =
    (o : Opening) (t : Execution) → Valid o t → (caller group k : ℕ) → IsCaller o caller →
    stands_in caller group t ≡ true → predecessor o k t ≡ Some group → IsWalkable o group t

-- and for the keeper it is so until all old groups of its rebuild are gone
abbrev pub OldBuffersAreWalkable : Type 0
OldBuffersAreWalkable =
    (o : Opening) (t : Execution) → Valid o t → (group k : ℕ) → predecessor o k t ≡ Some group →
    IsWalkable o group t ⊎ IsReplaced o group t

-- a walkable buffer stays so while a caller stands in the group
abbrev pub WalkableBuffersStay : Type 0
WalkableBuffersStay =
    (o : Opening) (caller group : ℕ) → IsCaller o caller → (newer t : Execution) →
    Valid o (newer ++ t) → StaysInside caller newer → stands_in caller group t ≡ true →
    IsWalkable o group t → IsWalkable o group (newer ++ t)

-- each buffer is walkable, or its group is out of use
abbrev pub BuffersAreWalkableOrOutOfUse : Type 0
BuffersAreWalkableOrOutOfUse =
    (o : Opening) (t : Execution) → Valid o t → (group : ℕ) →
    IsWalkable o group t ⊎ IsOutOfUse o group t

-- and it stays so, whoever stands there, until it is taken apart
abbrev pub WholeBuffersStayWalkable : Type 0
WholeBuffersStayWalkable =
    (o : Opening) (group : ℕ) (newer t : Execution) → Valid o (newer ++ t) →
    IsLeftWhole o group newer t → IsWalkable o group t → IsWalkable o group (newer ++ t)

-- each of its lanes is linked
abbrev pub WalkableBuffersAreLinked : Type 0
WalkableBuffersAreLinked =
    (o : Opening) (t : Execution) → Valid o t → (group lane : ℕ) → IsWalkable o group t →
    lane < lanes o group t → IsLinkedLane o (buffer_lane o group lane t) t

-- ---- the laws of links ----

-- what a link of a lane of a walkable buffer leads to is a row of the lane, or none
abbrev pub LinksLeadIntoTheBuffer : Type 0
LinksLeadIntoTheBuffer =
    (o : Opening) (t : Execution) → Valid o t → (group lane before : ℕ) → IsWalkable o group t →
    lane < lanes o group t → IsLinkInto o group lane before t →
    IsLinkInto o group lane (word o t (link_behind group lane before)) t

-- it decides of a key that it stands before, unless it leads to a smaller one
abbrev pub LinksBeforeAKeyDecide : Type 0
LinksBeforeAKeyDecide =
    (o : Opening) (t : Execution) → Valid o t → (group lane k before : ℕ) → IsWalkable o group t →
    HasLane o group lane k t → IsLinkBefore o group lane k before t →
    Decides o group lane k (word o t (link_behind group lane before)) t

-- the row behind another one has a greater key
abbrev pub LinksRise : Type 0
LinksRise =
    (o : Opening) (t : Execution) → Valid o t → (group place next i j : ℕ) → IsWalkable o group t →
    role o place t ≡ InBuffer group i → word o t (PlaceWord place part.Link) ≡ next →
    role o next t ≡ InBuffer group j → i < j

-- a link before a key stays one while a caller stands in the group
abbrev pub LinksBeforeAKeyStay : Type 0
LinksBeforeAKeyStay =
    (o : Opening) (caller group lane k before : ℕ) → IsCaller o caller → (newer t : Execution) →
    Valid o (newer ++ t) → StaysInside caller newer → stands_in caller group t ≡ true →
    IsLinkBefore o group lane k before t → IsLinkBefore o group lane k before (newer ++ t)

-- what a link led to does not come back once it was left, while a caller stands in the group: where a link
-- leads as it did before, it led there all the time
abbrev pub LeftLinksDoNotComeBack : Type 0
LeftLinksDoNotComeBack =
    (o : Opening) (caller group lane before : ℕ) → IsCaller o caller → (later newer t : Execution) →
    Valid o (later ++ (newer ++ t)) → StaysInside caller newer → StaysInside caller later →
    stands_in caller group t ≡ true → IsWalkable o group t → lane < lanes o group t →
    IsLinkInto o group lane before t →
    word o (later ++ (newer ++ t)) (link_behind group lane before)
    ≡ word o t (link_behind group lane before) →
    word o (newer ++ t) (link_behind group lane before) ≡ word o t (link_behind group lane before)
