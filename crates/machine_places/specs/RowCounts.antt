-- How many record rows are in buffers, or were taken out of one and not given back yet.
--
-- The fact to remember: a row comes into a buffer by an inserting change alone, and leaves it by the
-- keeper's hand alone.
use Rattle.std.specs.Prelude.{ℕ, ◌≤◌, Bool, true, false, nat_le, List}
use Rattle.std.specs.List.{count_by}
use Rattle.map_model.specs.History.{inserts}
use Rattle.word_layout.specs.Places.{rows_from}
use Rattle.index_machine.specs.declared.opening.Opening.{Opening}
use Rattle.index_machine.specs.Execution.{Execution}
use Rattle.index_machine.specs.Words.{shape, limits}
use Rattle.index_machine.specs.Rows.{Role, Unused, HeldBy, InArray, InBuffer, role}
use Rattle.index_machine.specs.Openings.{opening_map}
use Rattle.index_machine.specs.LivePlaces.{history}
use Rattle.index_machine.specs.Conditions.{Valid}

-- the places of all record rows
abbrev pub all_rows : Opening → List ℕ
all_rows o = rows_from (shape o) 0 (limits o).records

-- whether a row with this role is in a buffer or retired, where the hands of keepers are numbered from this on
abbrev pub is_linked_or_retired : ℕ → Role → Bool
is_linked_or_retired keepers Unused = false
is_linked_or_retired keepers (HeldBy hand) = nat_le keepers hand
is_linked_or_retired keepers (InArray group k) = false
is_linked_or_retired keepers (InBuffer group k) = true

-- how many record rows are in buffers or retired
abbrev pub linked_or_retired : Opening → Execution → ℕ
linked_or_retired o t =
    count_by (λ place. is_linked_or_retired (limits o).callers (role o place t)) (all_rows o)

-- ---- the laws, over all executions ----

-- no more record rows are in buffers or retired than the history has inserting changes
abbrev pub LinkedRowsAreInserts : Type 0
LinkedRowsAreInserts =
    (o : Opening) (t : Execution) → Valid o t →
    linked_or_retired o t ≤ inserts (opening_map o) (history t)
