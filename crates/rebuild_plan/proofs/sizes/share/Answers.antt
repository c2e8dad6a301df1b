use Rattle.std.proofs.Common.{arith}
use Rattle.rebuild_plan.proofs.Parts.{divides}
use Rattle.rebuild_plan.proofs.Rounding.{div_ceil-enough}
use Rattle.rebuild_plan.proofs.sizes.share.Goals as goal

pub returns-clause-parts : goal.returns-clause-parts
returns-clause-parts c =
    let enough = div_ceil-enough c.args.n c.args.groups c.requires in
    divides c.args.n c.args.groups c.div_ceil.result (rw c.div_ceil.ensures (omega (arith, enough)))
