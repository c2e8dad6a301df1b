use Rattle.std.proofs.Common.{◌≡◌, ◌∙◌, arith}
use Rattle.opened_table.proofs.LaidPlan.{count_of_rows}
use Rattle.opened_table.proofs.laying.count_of_groups.Goals as goal

pub returns-clause-count : goal.returns-clause-count
returns-clause-count c =
    c.groups_for.ensures.count
    ∙ count_of_rows c.args.opening.now c.args.part c.args.rows.now c.limits.result c.requires.rows
    c.limits.ensures.limits

pub overflow_cast-result : goal.overflow_cast-result
overflow_cast-result c =
    let o = c.args.opening.now in
    let count = returns-clause-count c in
    let fits = o.fits c.args.part c.requires.is_part in
    let most = o.layout.kept.most_groups in
    omega (arith, count, fits, most)
