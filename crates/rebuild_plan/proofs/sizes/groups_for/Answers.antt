use Rattle.std.proofs.Common.{◌≡◌, rules}
use Rattle.rebuild_plan.specs.Plan.{group_count}
use Rattle.rebuild_plan.proofs.SharesLaws.{share_of-le_fill, first_record-below}
use Rattle.rebuild_plan.proofs.sizes.groups_for.Goals as goal

pub returns-clause-fits : goal.returns-clause-fits
returns-clause-fits c =
    let count : c.max.result ≡ group_count c.args.n c.args.group_size = search rules in
    rw count (share_of-le_fill c.args.n c.args.group_size c.requires.least_size)

pub returns-clause-pivots : goal.returns-clause-pivots
returns-clause-pivots c =
    let count : c.max.result ≡ group_count c.args.n c.args.group_size = search rules in
    rw count (λ group later among.
    first_record-below c.args.n c.args.group_size group c.requires.least_size later among)
