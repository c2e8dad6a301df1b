use Rattle.std.proofs.Common.{ℕ, ◌<◌, ◌≤◌}
use Rattle.word_layout.specs.Layout.{limits_of, shape_of}
use Rattle.index_machine.specs.OpeningPlan.{planned_count}
use Rattle.xindex_core.proofs.refusing.groups_needed.Given as goal

abbrev pub invariant-loop-part : goal.invariant-loop-part
invariant-loop-part l =
    (earlier : ℕ) → earlier < l.part →
    planned_count (shape_of l.layout) l.rows earlier ≤ (limits_of l.layout).groups
