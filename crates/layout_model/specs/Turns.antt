-- What one turn of a part's keeper does at each stage, and answers.
--
-- The fact to remember: a turn changes its own part alone, but for the free rows that reclaiming gives back.
use Rattle.std.specs.Prelude.{ℕ, ◌+◌, ◌-◌, Bool, cond, nat_lt, nat_le, Option, Some, None, List, []}
use Rattle.std.specs.Prelude.{map, length, find, sum, sum_by, if◌then◌else◌}
use Rattle.std.specs.List.{range_with_len}
use Rattle.word_layout.specs.declared.limits.Limits.{Limits}
use Rattle.word_layout.specs.Shape.{Shape}
use Rattle.rebuild_plan.specs.Plan.{group_count}
use Rattle.layout_model.specs.Cells.{keys_of, with_version}
use Rattle.layout_model.specs.Groups.{Group, group_at, row_count, with_array, with_phase}
use Rattle.layout_model.specs.Layout.{Layout, Part, Span, behind, in_span, part_at, span_of, spliced}
use Rattle.layout_model.specs.Layout.{with_part}
use Rattle.layout_model.specs.Looking.{first_hit, look_count, looked_position}
use Rattle.layout_model.specs.Phase as phase
use Rattle.layout_model.specs.Phase.{Phase}
use Rattle.layout_model.specs.Plans.{filled, planned_groups, records_in}
use Rattle.layout_model.specs.Roots.{renamed, root_over}
use Rattle.layout_model.specs.Stage.{Stage}
use Rattle.layout_model.specs.Stage as stage
use Rattle.layout_model.specs.Turn.{Turn}
use Rattle.layout_model.specs.Turn as turn

-- what a turn does: its answer, the part that it leaves, and how many rows it gives back
pub record PartTurn : Type 0 where
  pub answer : Turn
  pub left : Part
  pub given : ℕ

-- a turn that gives no row back
abbrev pub turned : Turn → Part → PartTurn
turned answer left = record { answer = answer; left = left; given = 0 }

-- ---- the span ----

-- the groups of the chain that are rebuilt: the old ones, or from the install on the new ones
abbrev pub groups_in_span : Part → List Group
groups_in_span p = in_span p.span p.chain

-- the part with all groups of the span in a phase
abbrev pub with_span_phase : Phase → Part → Part
with_span_phase to p =
    record p { chain = spliced p.span (map (with_phase to) (groups_in_span p)) p.chain }

-- the part once its rebuild has ended: the cursor stands behind the span, which behind the last group is at the first
abbrev pub at_rest : Part → Part
at_rest p =
    record p {
      stage = stage.Look;
      span = span_of 0 0;
      cursor = if nat_lt (behind p.span) (length p.chain) then behind p.span else 0;
    }

-- ---- Look ----

-- a new root is built over the chain
abbrev pub build_root : Limits → Part → PartTurn
build_root l p =
    let slots = root_over l.slots p.chain in
    turned (turn.RootBuilt (length slots)) (record p { slots = slots; installs = 0 })

-- the groups that were hit are frozen, or where none was, the cursor moves on
abbrev pub freeze : (ℕ → Bool) → Part → Option Span → PartTurn
freeze held p None =
    turned (turn.Looked (look_count p))
    (record p { cursor = looked_position p (look_count p) })
freeze held p (Some span) =
    turned (turn.Frozen (group_at p.chain span.first).pivot)
    (with_span_phase phase.Frozen
    (record p { stage = stage.Frozen; span = span; awaited = held }))

abbrev pub look : Limits → (ℕ → Bool) → Part → PartTurn
look l held p =
    cond (nat_le l.chain p.installs) (build_root l p) (freeze held p (first_hit l p))

-- ---- barriers ----

-- the least caller that the barrier waits for
abbrev pub first_awaited : Limits → Part → Option ℕ
first_awaited l p = find p.awaited (range_with_len 0 l.callers)

-- the barrier waits for this caller, or for nobody any more
abbrev pub wait : (barrier : ℕ) (next : Stage) → Part → Option ℕ → PartTurn
wait barrier next p (Some c) = turned (turn.Waiting c) p
wait barrier next p None = turned (turn.Quiet barrier) (record p { stage = next })

abbrev pub check_barrier : Limits → (barrier : ℕ) (next : Stage) → Part → PartTurn
check_barrier l barrier next p = wait barrier next p (first_awaited l p)

-- ---- Ready ----

-- the keys of the records that the old groups have, in their order
abbrev pub counted_keys : Part → List ℕ
counted_keys p = keys_of (records_in (groups_in_span p))

-- the old groups take new keys again, since too few group rows are free
abbrev pub thaw : (need : ℕ) → Part → PartTurn
thaw need p = turned (turn.Thawed need p.free_groups) (at_rest (with_span_phase phase.Open p))

-- the old groups are opened to these new ones
abbrev pub open_groups : List Group → Part → PartTurn
open_groups coming p =
    turned (turn.Opened (length coming))
    (with_span_phase phase.Opened (record p {
      stage = stage.Opened;
      coming = coming;
      free_groups = p.free_groups - length coming;
    }))

-- the groups that are planned for the records of the old ones are opened, or there are too few group rows for them
abbrev pub open_new : Limits → Part → PartTurn
open_new l p =
    let keys = counted_keys p in
    let need = group_count (length keys) l.group_size in
    let coming = planned_groups (group_at p.chain p.span.first).pivot keys l.group_size in
    cond (nat_lt p.free_groups need) (thaw need p) (open_groups coming p)

-- ---- Opened ----

-- the new groups get the records of the old ones, and stand in the chain in their place
abbrev pub install : (ℕ → Bool) → Part → PartTurn
install held p =
    let old = groups_in_span p in
    let records = records_in old in
    let new = filled records p.coming in
    turned (turn.Installed (length records))
    (record p {
      chain = spliced p.span new p.chain;
      stage = stage.Installed;
      span = span_of p.span.first (length new);
      coming = [];
      gone = map row_count old;
      installs = p.installs + 1;
      slots = renamed old new p.slots;
      awaited = held;
    })

-- ---- Copying ----

-- how many records the arrays of the groups have
abbrev pub array_count : List Group → ℕ
array_count groups = sum_by (λ g. length g.array) groups

-- the group once its records have places of their own, where each begins at the first version
abbrev pub copied : Limits → Group → Group
copied l g = with_array (map (with_version l.first_version) g.array) g

-- the new groups are copied
abbrev pub copy : Limits → (ℕ → Bool) → Part → PartTurn
copy l held p =
    let new = groups_in_span p in
    turned (turn.Copied (array_count new))
    (record p {
      chain = spliced p.span (map (copied l) new) p.chain;
      stage = stage.Copied;
      awaited = held;
    })

-- ---- Reclaiming ----

-- the rows of the old buffers are free again, and so are the old group rows
abbrev pub reclaim : Part → PartTurn
reclaim p =
    record {
      answer = turn.Reclaimed (sum p.gone) (length p.gone);
      left = at_rest (record p { gone = []; free_groups = p.free_groups + length p.gone });
      given = sum p.gone;
    }

-- ---- a turn ----

-- what a turn does at a stage, where these callers are held
abbrev pub turn_at : Limits → (ℕ → Bool) → Part → Stage → PartTurn
turn_at l held p stage.Look = look l held p
turn_at l held p stage.Frozen = check_barrier l 1 stage.Ready p
turn_at l held p stage.Ready = open_new l p
turn_at l held p stage.Opened = install held p
turn_at l held p stage.Installed = check_barrier l 2 stage.Copying p
turn_at l held p stage.Copying = copy l held p
turn_at l held p stage.Copied = check_barrier l 3 stage.Reclaiming p
turn_at l held p stage.Reclaiming = reclaim p

-- the answer of a turn, and the layout that it leaves
pub record Turned : Type 0 where
  pub answer : Turn
  pub left : Layout

-- the layout after a turn of the keeper with a number
abbrev pub after_turn : ℕ → PartTurn → Layout → Layout
after_turn i t s = record (with_part i t.left s) { free_rows = s.free_rows + t.given }

-- what a turn of the keeper with a number does
abbrev pub turn_of : Shape → ℕ → Layout → Turned
turn_of h i s =
    let p = part_at s i in
    let t = turn_at h.limits s.held p p.stage in
    record { answer = t.answer; left = after_turn i t s }
