use Rattle.std.proofs.Common.{◌≡◌, rules}
use Rattle.rebuild_plan.specs.Plan.{lane_count}
use Rattle.rebuild_plan.proofs.LaneLaws.{lanes_divide}
use Rattle.rebuild_plan.proofs.lanes.lanes_for.Goals as goal

pub returns-clause-parts : goal.returns-clause-parts
returns-clause-parts c =
    let count : c.max.result ≡ lane_count c.args.records = search rules in
    rw count (lanes_divide c.args.records)
