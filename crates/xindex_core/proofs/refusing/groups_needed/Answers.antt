use Rattle.std.proofs.Common.{◌≡◌, ℕ, ◌≤◌, sym, ap, ◌∙◌, arith}
use borrow.Author.Count.{below_more}
use Rattle.rebuild_plan.specs.Plan.{group_count}
use Rattle.word_layout.specs.declared.layout.Layout.{Layout}
use Rattle.word_layout.specs.declared.limits.Limits.{Limits}
use Rattle.word_layout.specs.Layout.{bounds_of, limits_of, shape_of}
use Rattle.word_layout.specs.Parts.{part_count, part_with}
use Rattle.map_model.specs.Map.{Map}
use Rattle.index_machine.specs.OpeningPlan.{planned_count}
use Rattle.std.specs.Prelude.{count_by, ◌==◌}
use Rattle.xindex_core.proofs.OpenedRows.{keys-count}
use Rattle.xindex_core.proofs.refusing.groups_needed.Goals as goal

-- what is counted for a part is what is planned for it
planned : (l : Layout) (rows : Map) (part many need : ℕ) (limits : Limits) → limits ≡ limits_of l →
    many ≡ count_by (λ (r : ℕ × ℕ). part_with (bounds_of l) r.0 == part) rows →
    need ≡ group_count many limits.group_size → need ≡ planned_count (shape_of l) rows part
planned l rows part many need limits are counted is =
    is
    ∙ (λ i. group_count ((counted ∙ sym (keys-count (part_with (bounds_of l)) part rows)) i) (are i).group_size)

pub returns-then-need-from : goal.returns-then-need-from
returns-then-need-from c =
    let l = c.args.layout.now in
    let limits = c.limits-limits.ensures.limits in
    let more = c.if-need-from.true in
    let asked = c.from.ensures in
    let groups = ap (λ (z : Limits). z.groups) limits in
    let lt = c.loop-part-test.true in
    let count = c.count-part-end.ensures.count ∙ ap part_count c.parts.ensures.parts in
    record {
      part = c.loop-part.part;
      is_part = omega arith;
      planned = planned l c.args.rows.now c.loop-part.part c.count_in.result c.groups_for-need.result
          c.limits-limits.result limits c.count_in.ensures c.groups_for-need.ensures.count;
      too_many = omega arith;
      others_fit = c.loop-part.invariant;
    }

pub loop-part-preserved : goal.loop-part-preserved
loop-part-preserved c =
    λ earlier before.
    let l = c.args.layout.now in
    let limits = c.limits-limits.ensures.limits in
    let fits = c.if-need-from.false in
    let asked = c.from.ensures in
    let groups = ap (λ (z : Limits). z.groups) limits in
    let here = planned l c.args.rows.now c.loop-part.part c.count_in.result c.groups_for-need.result
    c.limits-limits.result limits c.count_in.ensures c.groups_for-need.ensures.count in
    below_more (λ (n : ℕ). planned_count (shape_of l) c.args.rows.now n ≤ (limits_of l).groups)
    c.loop-part.part c.loop-part.invariant (omega arith) earlier before
