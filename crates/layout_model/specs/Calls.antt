-- What a get, a put and a remove answer, and the layout that each leaves.
--
-- The fact to remember: each call locates its key once in the array of the key's group, whatever it answers.
use Rattle.std.specs.Prelude.{ℕ, zero, suc, ◌+◌, false, true, cond, ◌==◌, min}
use Rattle.std.specs.Prelude.{Option, Some, None, option_map}
use Rattle.word_layout.specs.Shape.{Shape}
use Rattle.layout_model.specs.Cells.{Cell, cell_at}
use Rattle.layout_model.specs.Groups.{group_for, probes_in}
use Rattle.layout_model.specs.Layout.{Layout, part_for, part_number, with_caller, with_part}
use Rattle.layout_model.specs.Phase.{Phase, Open, Frozen, Opened}
use Rattle.layout_model.specs.Records.{Found, InBuffer, InNewBuffer, Spot, cells_for, live_record}
use Rattle.layout_model.specs.Records.{with_added, with_replaced}

-- ---- answers ----

-- what a call is answered: the value that the key has or had, or why nothing was done
pub data Reply : Type 0 where
  Done : Option ℕ → Reply
  Full : Reply
  Worn : Reply
  AgainFrozen : Reply

-- the reply to a call, and the layout that it leaves
pub record Outcome : Type 0 where
  pub reply : Reply
  pub left : Layout

abbrev pub outcome : Reply → Layout → Outcome
outcome reply left = record { reply = reply; left = left }

-- the last version of a record
abbrev pub last_version : ℕ
last_version = 1152921504606846975

-- the greatest number of probes that is counted
abbrev pub most_probes : ℕ
most_probes = 18446744073709551615

-- ---- what a call leaves ----

-- how many keys are compared to locate a key
abbrev pub probes_for_key : Shape → Layout → ℕ → ℕ
probes_for_key h s k = probes_in (group_for (part_for h s k).chain k) k

-- the caller has compared so many keys more
abbrev pub with_probes : ℕ → ℕ → Layout → Layout
with_probes c more s =
    record s { probes = with_caller c (min (s.probes c + more) most_probes) s.probes }

-- the caller located the key
abbrev pub located : Shape → ℕ → ℕ → Layout → Layout
located h c k s = with_probes c (probes_for_key h s k) s

-- the layout with another record in the place of one that was found, its version raised
abbrev pub with_written : Shape → Found → Cell → Layout → Layout
with_written h at new s =
    let next = record new { version = at.cell.version + 1 } in
    with_part (part_number h new.key) (with_replaced at.spot next (part_for h s new.key)) s

-- a record is written, or where its version is the last one, nothing is done
abbrev pub written : Shape → Option ℕ → Found → Cell → Layout → Outcome
written h old at new s =
    cond (at.cell.version == last_version) (outcome Worn s)
    (outcome (Done old) (with_written h at new s))

-- ---- get ----

-- the value of what was found
abbrev pub value_of : Option Found → Option ℕ
value_of found = option_map (λ at. at.cell.value) found

-- what a caller's get of a key does
abbrev pub get : Shape → ℕ → ℕ → Layout → Outcome
get h c k s = outcome (Done (value_of (live_record (part_for h s k) k))) (located h c k s)

-- ---- put ----

-- a new record of the key
abbrev pub new_cell : Shape → ℕ → ℕ → Cell
new_cell h k v =
    record { key = k; value = v; version = h.limits.first_version; removed = false }

-- the layout with a new row of the key at a spot, where so many are still free
abbrev pub with_row : Shape → Spot → ℕ → ℕ → ℕ → Layout → Layout
with_row h spot k v left s =
    with_part (part_number h k) (with_added spot (new_cell h k v) (part_for h s k))
    (record s { free_rows = left })

-- a row is taken and linked at a spot, where one is free
abbrev pub linked : Shape → Spot → ℕ → ℕ → ℕ → Layout → Outcome
linked h spot k v zero s = outcome Full s
linked h spot k v (suc left) s = outcome (Done None) (with_row h spot k v left s)

-- a key without a value goes to a spot: its removed row there is revived, or it gets a new row
abbrev pub inserted : Shape → Spot → ℕ → ℕ → Option Cell → Layout → Outcome
inserted h spot k v None s = linked h spot k v s.free_rows s
inserted h spot k v (Some c) s =
    written h None (record { spot = spot; cell = c }) (record c { value = v; removed = false }) s

-- a key without a value goes where the phase of its group says
abbrev pub put_new : Shape → ℕ → ℕ → Phase → Layout → Outcome
put_new h k v Open s =
    inserted h InBuffer k v (cell_at (cells_for (part_for h s k) k InBuffer) k) s
put_new h k v Frozen s = outcome AgainFrozen s
put_new h k v Opened s =
    inserted h InNewBuffer k v (cell_at (cells_for (part_for h s k) k InNewBuffer) k) s

-- a put, by the record of the key that has a value: it is overwritten wherever it stands
abbrev pub put_over : Shape → ℕ → ℕ → Option Found → Layout → Outcome
put_over h k v None s = put_new h k v (group_for (part_for h s k).chain k).phase s
put_over h k v (Some at) s = written h (Some at.cell.value) at (record at.cell { value = v }) s

-- what a caller's put of a value at a key does
abbrev pub put : Shape → ℕ → ℕ → ℕ → Layout → Outcome
put h c k v s = put_over h k v (live_record (part_for h s k) k) (located h c k s)

-- ---- remove ----

-- a remove, by the record of the key that has a value: it stays as a removed one
abbrev pub removed_from : Shape → Option Found → Layout → Outcome
removed_from h None s = outcome (Done None) s
removed_from h (Some at) s =
    written h (Some at.cell.value) at (record at.cell { value = 0; removed = true }) s

-- what a caller's remove of a key does
abbrev pub remove : Shape → ℕ → ℕ → Layout → Outcome
remove h c k s = removed_from h (live_record (part_for h s k) k) (located h c k s)
