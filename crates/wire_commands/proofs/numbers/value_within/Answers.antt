use Rattle.std.proofs.Common.{arith}
use Rattle.wire_commands.proofs.NumberLaws.{value_of_more, value_of_more-le}
use Rattle.wire_commands.proofs.numbers.value_within.Goals as goal

pub returns-in_err-checked_mul : goal.returns-in_err-checked_mul
returns-in_err-checked_mul c =
    let above =
    value_of_more-le c.args.number.now c.loop-digit.digit-index c.loop-digit.value
    c.loop-digit-test.true c.loop-digit.invariant in
    rw c.from_residual.ensures
    (λ within. c.in_err-checked_mul.ensures (omega (arith, above, within)))

pub returns-in_err-value : goal.returns-in_err-value
returns-in_err-value c =
    let above =
    value_of_more-le c.args.number.now c.loop-digit.digit-index c.loop-digit.value
    c.loop-digit-test.true c.loop-digit.invariant in
    rw c.from_residual-in_err-value.ensures
    (λ within. c.in_err-value.ensures (omega (arith, above, within)))

pub loop-digit-preserved : goal.loop-digit-preserved
loop-digit-preserved c =
    let more = value_of_more c.args.number.now c.loop-digit.digit-index c.loop-digit-test.true in
    omega (arith, more, c.in_ok-value.ensures, c.loop-digit.invariant)
