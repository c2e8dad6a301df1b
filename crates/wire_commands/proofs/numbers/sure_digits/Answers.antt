use Rattle.std.proofs.Common.{get_or, take, sym, subst, rules, arith}
use Rattle.std.specs.List.{AllByRecursion}
use Rattle.std.proofs.lemmas.List.{length-take-le, take_more}
use Rattle.wire_commands.specs.Numbers.{IsDigit}
use Rattle.wire_commands.proofs.Spans.{push_has}
use Rattle.wire_commands.proofs.NumberLaws.{few_digits_fit, value_of_more}
use Rattle.wire_commands.proofs.numbers.sure_digits.Goals as goal

-- one more digit
pub loop-index-preserved : goal.loop-index-preserved
loop-index-preserved c =
    let front = c.args.front.now in
    let i = c.loop-index.index in
    let digit : IsDigit (get_or front i 0) = search rules in
    record {
      digits = subst (AllByRecursion IsDigit) (sym (take_more front i 0 c.loop-index-test.true))
          (push_has IsDigit (take i front) (get_or front i 0) c.loop-index.invariant.digits digit);
      value = omega (arith, value_of_more front i c.loop-index-test.true, c.loop-index.invariant.value, c.from.ensures);
    }

pub overflow_mul-value : goal.overflow_mul-value
overflow_mul-value c =
    let fits = few_digits_fit (take c.loop-index.index c.args.front.now) c.loop-index.value 0 c.loop-index.invariant.digits
    c.loop-index.invariant.value (omega (arith, c.requires, c.loop-index-test.true, length-take-le c.loop-index.index c.args.front.now (omega (arith, c.loop-index-test.true)))) (omega arith) in
    omega (arith, fits)

pub overflow_add-value : goal.overflow_add-value
overflow_add-value c =
    let digit : IsDigit (get_or c.args.front.now c.loop-index.index 0) = search rules in
    let fits = few_digits_fit (take c.loop-index.index c.args.front.now) c.loop-index.value c.from.result c.loop-index.invariant.digits
    c.loop-index.invariant.value (omega (arith, c.requires, c.loop-index-test.true, length-take-le c.loop-index.index c.args.front.now (omega (arith, c.loop-index-test.true)))) (omega (arith, digit, c.from.ensures)) in
    omega (arith, fits)
