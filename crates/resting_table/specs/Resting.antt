-- Words at rest: those that an execution leaves in which nothing was rebuilt, and after which nobody holds a
-- version lock.
--
-- The fact to remember: then each record's words tell its key, whether it has a value, and which.
use Rattle.std.specs.Prelude.{◌≡◌, ℕ, ◌+◌, ◌*◌, true, List, filter, nat_lt}
use Rattle.map_model.specs.History.{after}
use Rattle.map_model.specs.Map.{Map}
use Rattle.word_layout.specs.declared.layout.Layout.{Layout}
use Rattle.word_layout.specs.Shape.{Shape, group_total}
use Rattle.index_machine.specs.declared.opening.Opening.{Opening}
use Rattle.index_machine.specs.Conditions.{Valid}
use Rattle.index_machine.specs.Execution.{Execution}
use Rattle.index_machine.specs.LivePlaces.{history}
use Rattle.index_machine.specs.OpeningRows.{is_in_opening_chain, opening_group}
use Rattle.index_machine.specs.Openings.{opening_map}
use Rattle.index_machine.specs.RecordConditions.{HoldsNoLock}
use Rattle.resting_table.specs.NoRebuild.{HasNoRebuild}
use Rattle.opened_table.specs.Laying.{StandsFor}

-- how many records a table of this shape has places for: its record rows, and the arrays of all groups
abbrev pub place_count : Shape → ℕ
place_count s = s.limits.records + group_total s * s.limits.group_size

-- the words are those that this execution leaves, in which nothing was rebuilt, and after which nobody holds
-- a version lock
pub record LeaveAtRest (l : Layout) (words : List ℕ) (o : Opening) (t : Execution) : Type 0 where
  pub layout : o.layout ≡ l
  pub valid : Valid o t
  pub none_rebuilt : HasNoRebuild t
  pub stand_for : StandsFor o words t
  pub unlocked : (hand : ℕ) → HoldsNoLock o hand t

-- some execution leaves the words so
abbrev pub AreAtRest : Layout → List ℕ → Type 0
AreAtRest l words = (o : Opening) × (t : Execution) × LeaveAtRest l words o t

-- the map that an execution leaves
abbrev pub map_left : Opening → Execution → Map
map_left o t = after (opening_map o) (history t)

-- whichever execution leaves the words so, it leaves these pairs
abbrev pub TellPairs : Layout → List ℕ → Map → Type 0
TellPairs l words pairs =
    (o : Opening) (t : Execution) → LeaveAtRest l words o t → pairs ≡ after (opening_map o) (history t)

-- ---- group by group ----

-- whichever execution leaves the words so, the group is in its part's chain
abbrev pub IsChainedIn : Layout → List ℕ → ℕ → Type 0
IsChainedIn l words group =
    (o : Opening) (t : Execution) → LeaveAtRest l words o t → is_in_opening_chain o group ≡ true

-- the pairs whose keys are of the groups before this one
abbrev pub pairs_before : Opening → ℕ → Map → Map
pairs_before o group pairs = filter (λ pair. nat_lt (opening_group o pair.0) group) pairs

-- whichever execution leaves the words so, these are the pairs that it leaves of the groups before this one
abbrev pub TellPairsBefore : Layout → List ℕ → ℕ → Map → Type 0
TellPairsBefore l words group pairs =
    (o : Opening) (t : Execution) → LeaveAtRest l words o t →
    pairs ≡ pairs_before o group (map_left o t)
