use Rattle.std.proofs.Common.{◌*◌, ◌-◌, ◌^◌, ◌<◌, ◌≤◌, arith}
use Rattle.line_window.proofs.Quotients.{estimate_below, estimate_above, long_span}
use Rattle.line_window.proofs.scaling.scaled.Goals as goal

pub mended-requires-clause-below : goal.mended-requires-clause-below
mended-requires-clause-below c =
    let product : 2 ^ 64 - 1 < c.args.distance * c.args.steps = simp (c.from.ensures, c.from-2.ensures, c.from-3.ensures) at c.if-product-from.false in
    let long : 2 ^ 40 ≤ c.args.span = long_span c.args.distance c.args.span c.args.steps c.requires c.if-steps-ge-FEW_STEPS.false product in
    simp (c.from.ensures, c.from-2.ensures) (estimate_below c.args.distance c.args.span c.args.steps 1048576 (omega arith) (omega arith) (omega arith))

pub mended-requires-clause-above : goal.mended-requires-clause-above
mended-requires-clause-above c =
    let product : 2 ^ 64 - 1 < c.args.distance * c.args.steps = simp (c.from.ensures, c.from-2.ensures, c.from-3.ensures) at c.if-product-from.false in
    let long : 2 ^ 40 ≤ c.args.span = long_span c.args.distance c.args.span c.args.steps c.requires c.if-steps-ge-FEW_STEPS.false product in
    simp (c.from.ensures, c.from-2.ensures) (estimate_above c.args.distance c.args.span c.args.steps 1048576 (omega arith) (omega arith) (omega arith))
