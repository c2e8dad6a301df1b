-- A buffer is one to eight lists of rows with rising keys, its lanes: each has a head word and a key range of its
-- own.
--
-- The fact to remember: a lane's head leads to its first row, and each of its rows to the next one.
use Rattle.std.specs.Prelude.{◌≡◌, ◌≢◌, ◌⊎◌, ℕ, zero, suc, ◌+◌, ◌<◌, ◌≤◌, cond, ◌==◌, nat_lt}
use Rattle.std.specs.Prelude.{Option, Some, None, true, ◌++◌}
use Rattle.map_model.specs.Map.{Map, first_from, look, put}
use Rattle.word_layout.specs.declared.headers.HeaderWord.TheVariants as header
use Rattle.word_layout.specs.declared.places.Part.TheVariants.{Link}
use Rattle.word_layout.specs.Words.{Header, PlaceWord, Word}
use Rattle.index_machine.specs.declared.opening.Opening.{Opening}
use Rattle.index_machine.specs.Execution.{Execution}
use Rattle.index_machine.specs.Words.{word}
use Rattle.index_machine.specs.Lanes.{cut, lanes}
use Rattle.index_machine.specs.Rows.{InBuffer, role}
use Rattle.index_machine.specs.Sections.{IsCaller, StaysInside}
use Rattle.index_machine.specs.Reaching.{stands_in}
use Rattle.index_machine.specs.Conditions.{Valid}
use Rattle.machine_readers.specs.Buffers.{rows}

-- ---- lanes ----

-- a lane of a group's buffer: the word that is its head, its least key, and the least key behind its range,
-- or none where it has all greater keys
pub record Lane : Type 0 where
  pub group : ℕ
  pub head : Word
  pub low : ℕ
  pub end : Option ℕ

-- the least key behind a lane of a group's buffer: the next lane's cut, if there is a next lane
abbrev pub lane_end : Opening → ℕ → ℕ → Execution → Option ℕ
lane_end o group lane t =
    cond (lane + 1 == lanes o group t) None (Some (cut o group (lane + 1) t))

-- a lane of a group's buffer
abbrev pub buffer_lane : Opening → ℕ → ℕ → Execution → Lane
buffer_lane o group lane t =
    record {
      group = group;
      head = Header group (header.Head lane);
      low = cut o group lane t;
      end = lane_end o group lane t;
    }

-- the key stands before the end, if there is one
abbrev pub IsBefore : ℕ → Option ℕ → Type 0
IsBefore k None = Unit {0}
IsBefore k (Some end) = k < end

-- the key is in the lane's range
abbrev pub IsInRange : Lane → ℕ → Type 0
IsInRange lane k = (lane.low ≤ k) × IsBefore k lane.end

-- the link word behind a row of the lane, or its head where there is no row before
abbrev pub lane_link : Lane → ℕ → Word
lane_link lane zero = lane.head
lane_link lane (suc n) = PlaceWord (suc n) Link

-- ---- next rows ----

-- the place of a row, or 0 for none
abbrev pub place_of_row : Option (ℕ × ℕ) → ℕ
place_of_row None = 0
place_of_row (Some row) = row.1

-- the row, unless its key is this one or greater
abbrev pub below : ℕ → Option (ℕ × ℕ) → Option (ℕ × ℕ)
below end None = None
below end (Some row) = cond (nat_lt row.0 end) (Some row) None

-- the row, unless its key does not stand before the end
abbrev pub before_end : Option ℕ → Option (ℕ × ℕ) → Option (ℕ × ℕ)
before_end None row = row
before_end (Some end) row = below end row

-- the place of the first row before the end whose key is this one or greater, or 0
abbrev pub link_from : Option ℕ → ℕ → Map → ℕ
link_from end low m = place_of_row (before_end end (first_from m low))

-- the place of the lane's first row among these, or 0
abbrev pub first_row : Lane → Map → ℕ
first_row lane m = link_from lane.end lane.low m

-- the place of the lane's first row with a greater key, or 0
abbrev pub next_row_behind : Lane → ℕ → Map → ℕ
next_row_behind lane k m = link_from lane.end (k + 1) m

-- ---- linked lanes ----

-- the rows of the lane are linked from its head in the order of their keys, and all that were linked stand
-- in the buffer
pub record IsLinkedLane (o : Opening) (lane : Lane) (t : Execution) : Type 0 where
  pub head : word o t lane.head ≡ first_row lane (rows lane.group t)
  pub links : (k place : ℕ) → role o place t ≡ InBuffer lane.group k → IsInRange lane k →
      word o t (PlaceWord place Link) ≡ next_row_behind lane k (rows lane.group t)
  pub standing : (k place : ℕ) → look (rows lane.group t) k ≡ Some place → IsInRange lane k →
      role o place t ≡ InBuffer lane.group k

-- the link behind this place stands before the key: it is the lane's head, or that of its row with a smaller
-- key
abbrev pub IsLaneLinkBefore : Opening → Lane → ℕ → ℕ → Execution → Type 0
IsLaneLinkBefore o lane k before t =
    (before ≡ 0)
    ⊎ ((j : ℕ) × (role o before t ≡ InBuffer lane.group j) × IsInRange lane j × (j < k))

-- a link of the lane: its head, or that of one of its rows
abbrev pub IsLaneLink : Opening → Lane → ℕ → Execution → Type 0
IsLaneLink o lane before t =
    (before ≡ 0)
    ⊎ ((j : ℕ) × (role o before t ≡ InBuffer lane.group j) × IsInRange lane j)

-- what a link that leads to this place says of a key in the lane's range
pub record LaneDecides (o : Opening) (lane : Lane) (k place : ℕ) (t : Execution) : Type 0 where
  -- no row, or one with a greater key: the key has none
  pub none : place ≡ 0 → look (rows lane.group t) k ≡ None
  pub greater : (j : ℕ) → role o place t ≡ InBuffer lane.group j → k < j →
      look (rows lane.group t) k ≡ None
  -- the row of the key
  pub found : role o place t ≡ InBuffer lane.group k → look (rows lane.group t) k ≡ Some place
  -- a row with a smaller key: its link stands before the key
  pub smaller : (j : ℕ) → role o place t ≡ InBuffer lane.group j → j < k →
      IsLaneLinkBefore o lane k place t

-- ---- what is done to a lane ----

-- from the one execution to the other a row of this key was linked into the lane behind the place `before`,
-- ahead of greater keys alone; the lane's other rows and links are as they were
pub record LinksInto (o : Opening) (lane : Lane) (k place before : ℕ) (t later : Execution)
    : Type 0 where
  pub in_range : IsInRange lane k
  pub behind : IsLaneLinkBefore o lane k before t
  pub leads : word o t (PlaceWord place Link) ≡ word o t (lane_link lane before)
  pub ahead : (j : ℕ) → role o (word o t (lane_link lane before)) t ≡ InBuffer lane.group j → k < j
  pub linked : word o later (lane_link lane before) ≡ place
  pub kept : word o later (PlaceWord place Link) ≡ word o t (PlaceWord place Link)
  pub head : before ≢ 0 → word o later lane.head ≡ word o t lane.head
  pub rows : rows lane.group later ≡ put (rows lane.group t) k place
  pub row : role o place later ≡ InBuffer lane.group k
  pub others : (j q : ℕ) → role o q t ≡ InBuffer lane.group j → IsInRange lane j → q ≢ before →
      word o later (PlaceWord q Link) ≡ word o t (PlaceWord q Link)
  pub stay : (j q : ℕ) → role o q t ≡ InBuffer lane.group j → IsInRange lane j →
      role o q later ≡ InBuffer lane.group j
  pub came : (j q : ℕ) → role o q later ≡ InBuffer lane.group j → IsInRange lane j → place ≢ q →
      role o q t ≡ InBuffer lane.group j

-- no row was linked into the lane: the group's rows are those that were there, or one more whose key is out
-- of the lane's range; and its head, its rows and their links are as they were
pub record KeepsLane (o : Opening) (lane : Lane) (t later : Execution) : Type 0 where
  pub head : word o later lane.head ≡ word o t lane.head
  pub links : (j q : ℕ) → role o q t ≡ InBuffer lane.group j → IsInRange lane j →
      word o later (PlaceWord q Link) ≡ word o t (PlaceWord q Link)
  pub stay : (j q : ℕ) → role o q t ≡ InBuffer lane.group j → IsInRange lane j →
      role o q later ≡ InBuffer lane.group j
  pub came : (j q : ℕ) → role o q later ≡ InBuffer lane.group j → IsInRange lane j →
      role o q t ≡ InBuffer lane.group j
  pub rows : (rows lane.group later ≡ rows lane.group t)
      ⊎ ((k : ℕ) × (place : ℕ) × (IsInRange lane k → ⊥) × (look (rows lane.group t) k ≡ None)
      × (rows lane.group later ≡ put (rows lane.group t) k place))

-- ---- the laws of lanes, over all executions ----

-- a row that is linked into a linked lane takes its place there
abbrev pub LinkedRowsTakeTheirPlace : Type 0
LinkedRowsTakeTheirPlace =
    (o : Opening) (lane : Lane) (k place before : ℕ) (t later : Execution) → Valid o t →
    IsLinkedLane o lane t → LinksInto o lane k place before t later → IsLinkedLane o lane later

-- a lane into which none is linked stays linked, whatever is linked into other lanes of the group
abbrev pub OtherLanesStayLinked : Type 0
OtherLanesStayLinked =
    (o : Opening) (lane : Lane) (t later : Execution) → Valid o t → IsLinkedLane o lane t →
    KeepsLane o lane t later → IsLinkedLane o lane later

-- what a link of a linked lane leads to is a row of it, or none
abbrev pub LaneLinksLeadIntoTheLane : Type 0
LaneLinksLeadIntoTheLane =
    (o : Opening) (lane : Lane) (before : ℕ) (t : Execution) → Valid o t → IsLinkedLane o lane t →
    IsLaneLink o lane before t → IsLaneLink o lane (word o t (lane_link lane before)) t

-- it decides of a key that it stands before, unless it leads to a smaller one
abbrev pub LaneLinksDecide : Type 0
LaneLinksDecide =
    (o : Opening) (lane : Lane) (k before : ℕ) (t : Execution) → Valid o t → IsLinkedLane o lane t →
    IsInRange lane k → IsLaneLinkBefore o lane k before t →
    LaneDecides o lane k (word o t (lane_link lane before)) t

-- the row behind another one has a greater key
abbrev pub LaneLinksRise : Type 0
LaneLinksRise =
    (o : Opening) (lane : Lane) (place i j : ℕ) (t : Execution) → Valid o t → IsLinkedLane o lane t →
    role o place t ≡ InBuffer lane.group i → IsInRange lane i →
    role o (word o t (PlaceWord place Link)) t ≡ InBuffer lane.group j → i < j

-- what a link led to does not come back once it was left, while a caller stands in the group: where a link
-- leads as it did before, it led there all the time
abbrev pub LeftLaneLinksDoNotComeBack : Type 0
LeftLaneLinksDoNotComeBack =
    (o : Opening) (lane : Lane) (caller before : ℕ) → IsCaller o caller →
    (later newer t : Execution) → Valid o (later ++ (newer ++ t)) → StaysInside caller newer →
    StaysInside caller later → stands_in caller lane.group t ≡ true → IsLinkedLane o lane t →
    IsLinkedLane o lane (newer ++ t) → IsLinkedLane o lane (later ++ (newer ++ t)) →
    IsLaneLink o lane before t →
    word o (later ++ (newer ++ t)) (lane_link lane before) ≡ word o t (lane_link lane before) →
    word o (newer ++ t) (lane_link lane before) ≡ word o t (lane_link lane before)
