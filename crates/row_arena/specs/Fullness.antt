-- What it means that no record row is free.
--
-- The fact to remember: a row that is neither free nor in a caller's hand came into a buffer by an
-- inserting change of its own.
use Rattle.std.specs.Prelude.{◌≡◌, ℕ, ◌+◌, ◌≤◌, ◌++◌}
use Rattle.map_model.specs.History.{inserts}
use Rattle.word_layout.specs.Words.{FreeHead}
use Rattle.index_machine.specs.declared.opening.Opening.{Opening}
use Rattle.index_machine.specs.Conditions.{Valid}
use Rattle.index_machine.specs.Execution.{Execution}
use Rattle.index_machine.specs.LivePlaces.{history}
use Rattle.index_machine.specs.Openings.{opening_map}
use Rattle.index_machine.specs.Rows.{HoldsNone}
use Rattle.index_machine.specs.Sections.{IsCaller}
use Rattle.index_machine.specs.Words.{limits, word}

-- the record rows are used up: the history has at least records + 1 - callers inserting changes, as
-- where each caller but one holds a row, and all others were linked
abbrev pub RowsAreUsedUp : Opening → Execution → Type 0
RowsAreUsedUp o t =
    (limits o).records + 1 ≤ inserts (opening_map o) (history t) + (limits o).callers

-- ---- the laws, over all executions ----

-- where no row is free and some caller holds none, the rows are used up
abbrev pub NoFreeRowMeansUsedUp : Type 0
NoFreeRowMeansUsedUp =
    (o : Opening) (t : Execution) (caller : ℕ) → Valid o t → IsCaller o caller →
    word o t FreeHead ≡ 0 → HoldsNone o caller t → RowsAreUsedUp o t

-- rows that are used up stay so, as the execution goes on
abbrev pub UsedUpRowsStaySo : Type 0
UsedUpRowsStaySo =
    (o : Opening) (newer t : Execution) → RowsAreUsedUp o t → RowsAreUsedUp o (newer ++ t)
