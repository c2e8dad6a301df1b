-- What holds of a layout between any two lines: of its records, groups, parts and keepers.
--
-- The fact to remember: each record lies in the part, the group and the lane that have its key.
use Rattle.std.specs.Prelude.{◌≡◌, ℕ, ◌-◌, ◌<◌, ◌≤◌, Bool, true, Some, List, [], ◌++◌, map, length, replicate}
use Rattle.std.specs.Prelude.{slice_index, slice_index_or, All}
use Rattle.std.specs.List.{Contains}
use Rattle.std.specs.List.Sorted.{IsStrictlyIncreasing}
use Rattle.word_layout.specs.Parts.{first_key_of}
use Rattle.word_layout.specs.Shape.{Shape, parts_in}
use Rattle.layout_model.specs.Calls.{last_version}
use Rattle.layout_model.specs.Cells.{Cell, keys_of, live_at}
use Rattle.layout_model.specs.Groups.{Group, cuts_of, group_at, group_for, no_lane, pivots_of}
use Rattle.layout_model.specs.Layout.{Layout, Part, Slot, Span, behind, part_at, part_number, span_of}
use Rattle.layout_model.specs.Phase as phase
use Rattle.layout_model.specs.Phase.{Phase}
use Rattle.layout_model.specs.Records.{Spot, cells_for}
use Rattle.layout_model.specs.Stage as stage
use Rattle.layout_model.specs.Stage.{Stage}
use Rattle.layout_model.specs.Stretches.{position_of}

-- ---- records ----

-- the records have rising keys, all of them such keys, and versions up to the last
pub record AreRecords (Has : ℕ → Type 0) (cells : List Cell) : Type 0 where
  pub rising : IsStrictlyIncreasing (keys_of cells)
  pub own : All (λ c. Has c.key) cells
  pub versions : All (λ c. c.version ≤ last_version) cells

-- the key is such a key, and the neighbour at a position has it
pub record IsKeyAt (Has : ℕ → Type 0) (begins : List ℕ) (i key : ℕ) : Type 0 where
  pub has : Has key
  pub at : position_of begins key ≡ i

-- ---- groups ----

-- the group has lanes, of which the first begins with it; its cuts rise, and all its keys are such keys
pub record IsGroup (Has : ℕ → Type 0) (g : Group) : Type 0 where
  pub array : AreRecords Has g.array
  pub some : 0 < length g.lanes
  pub first : slice_index (cuts_of g) 0 ≡ g.pivot
  pub rising : IsStrictlyIncreasing (cuts_of g)
  pub cuts : All Has (cuts_of g)
  pub lanes : (i : ℕ) → i < length g.lanes →
      AreRecords (IsKeyAt Has (cuts_of g) i) (slice_index_or g.lanes i no_lane).rows

-- neighbours have rising pivots, and each of them has keys of its own stretch alone, all of them such keys
pub record AreGroups (Has : ℕ → Type 0) (groups : List Group) : Type 0 where
  pub rising : IsStrictlyIncreasing (pivots_of groups)
  pub each : (i : ℕ) → i < length groups →
      IsGroup (IsKeyAt Has (pivots_of groups) i) (group_at groups i)

-- ---- phases ----

-- the phase of the groups that are rebuilt, at each stage
abbrev pub span_phase : Stage → Phase
span_phase stage.Look = phase.Open
span_phase stage.Frozen = phase.Frozen
span_phase stage.Ready = phase.Frozen
span_phase stage.Opened = phase.Opened
span_phase stage.Installed = phase.Open
span_phase stage.Copying = phase.Open
span_phase stage.Copied = phase.Open
span_phase stage.Reclaiming = phase.Open

-- the phases of the groups
abbrev pub phases_of : List Group → List Phase
phases_of groups = map (λ g. g.phase) groups

-- the phases along the chain of a part: those in the span have that of the stage, and all others are open
abbrev pub phases_at : Part → List Phase
phases_at p =
    replicate p.span.first phase.Open
    ++ replicate p.span.many (span_phase p.stage)
    ++ replicate (length p.chain - behind p.span) phase.Open

-- ---- what fits a stage ----

-- there is no span where no rebuild is under way; up to the install it has one or two groups, and then at least one
abbrev pub SpanAt : Stage → Span → Type 0
SpanAt stage.Look span = span ≡ span_of 0 0
SpanAt stage.Frozen span = (0 < span.many) × (span.many ≤ 2)
SpanAt stage.Ready span = (0 < span.many) × (span.many ≤ 2)
SpanAt stage.Opened span = (0 < span.many) × (span.many ≤ 2)
SpanAt stage.Installed span = 0 < span.many
SpanAt stage.Copying span = 0 < span.many
SpanAt stage.Copied span = 0 < span.many
SpanAt stage.Reclaiming span = 0 < span.many

-- there are new groups that are not in the chain yet just where the old ones are opened to them
abbrev pub ComingAt : Stage → List Group → Type 0
ComingAt stage.Look coming = coming ≡ []
ComingAt stage.Frozen coming = coming ≡ []
ComingAt stage.Ready coming = coming ≡ []
ComingAt stage.Opened coming = 0 < length coming
ComingAt stage.Installed coming = coming ≡ []
ComingAt stage.Copying coming = coming ≡ []
ComingAt stage.Copied coming = coming ≡ []
ComingAt stage.Reclaiming coming = coming ≡ []

-- one or two groups were taken out of the chain, from the install on, and none before
abbrev pub GoneAt : Stage → List ℕ → Type 0
GoneAt stage.Look gone = gone ≡ []
GoneAt stage.Frozen gone = gone ≡ []
GoneAt stage.Ready gone = gone ≡ []
GoneAt stage.Opened gone = gone ≡ []
GoneAt stage.Installed gone = (0 < length gone) × (length gone ≤ 2)
GoneAt stage.Copying gone = (0 < length gone) × (length gone ≤ 2)
GoneAt stage.Copied gone = (0 < length gone) × (length gone ≤ 2)
GoneAt stage.Reclaiming gone = (0 < length gone) × (length gone ≤ 2)

-- where the keeper looks for groups to rebuild, it looks at a group of the chain
abbrev pub CursorAt : Stage → Part → Type 0
CursorAt stage.Look p = p.cursor < length p.chain
CursorAt _ p = Unit {0}

-- ---- parts ----

-- the slot names a group of the chain, which begins at the slot's pivot or before it
pub record IsSlot (chain : List Group) (slot : Slot) : Type 0 where
  pub named : Contains (pivots_of chain) slot.group
  pub from : slot.group ≤ slot.pivot

-- the slots have rising pivots, of which the first is the least key of all
pub record AreSlots (least : ℕ) (chain : List Group) (slots : List Slot) : Type 0 where
  pub some : 0 < length slots
  pub first : slice_index (map (λ slot. slot.pivot) slots) 0 ≡ least
  pub rising : IsStrictlyIncreasing (map (λ slot. slot.pivot) slots)
  pub each : All (IsSlot chain) slots

-- a key has a value at a spot
pub record HasValueAt (p : Part) (k : ℕ) (spot : Spot) : Type 0 where
  pub cell : Cell
  pub live : live_at (cells_for p k spot) k ≡ Some cell

-- a key has a value at one spot at most
abbrev pub HaveOneValue : Part → Type 0
HaveOneValue p = (k : ℕ) (one other : Spot) → HasValueAt p k one → HasValueAt p k other →
    one ≡ other

-- the key is one of the part with a number
abbrev pub IsKeyIn : Shape → ℕ → ℕ → Type 0
IsKeyIn h i k = part_number h k ≡ i

-- it is one of an old group that is opened to new ones
pub record IsComingKey (h : Shape) (i : ℕ) (chain : List Group) (k : ℕ) : Type 0 where
  pub part : IsKeyIn h i k
  pub opened : (group_for chain k).phase ≡ phase.Opened

-- how the part with a number fits together: its groups, the rebuild that is under way, and its slots
pub record IsWellFormedPart (h : Shape) (i : ℕ) (p : Part) : Type 0 where
  pub some : 0 < length p.chain
  pub first : slice_index (pivots_of p.chain) 0 ≡ first_key_of h.bounds i
  pub chain : AreGroups (IsKeyIn h i) p.chain
  pub span : SpanAt p.stage p.span
  pub fits : behind p.span ≤ length p.chain
  pub phases : phases_of p.chain ≡ phases_at p
  pub coming : AreGroups (IsComingKey h i p.chain) p.coming
  pub coming_at : ComingAt p.stage p.coming
  pub coming_phases : phases_of p.coming ≡ replicate (length p.coming) phase.Open
  pub one_value : HaveOneValue p
  pub gone : GoneAt p.stage p.gone
  pub cursor : CursorAt p.stage p
  pub slots : AreSlots (first_key_of h.bounds i) p.chain p.slots

-- ---- layouts ----

-- the callers that a barrier waits for are held
abbrev pub AwaitsHeld : (ℕ → Bool) → Part → Type 0
AwaitsHeld held p = (c : ℕ) → p.awaited c ≡ true → held c ≡ true

-- each part is well-formed and waits for held callers alone, and there are as many parts as the shape has
pub record IsWellFormed (h : Shape) (s : Layout) : Type 0 where
  pub many : length s.parts ≡ parts_in h
  pub parts : (i : ℕ) → i < parts_in h → IsWellFormedPart h i (part_at s i)
  pub awaited : (i : ℕ) → i < parts_in h → AwaitsHeld s.held (part_at s i)
