use Rattle.std.proofs.Common.{rules}
use Rattle.wire_commands.specs.Numbers.{IsNumber}
use Rattle.wire_commands.proofs.ReadingLaws.{lacks_one_number, within_or_range}
use Rattle.wire_commands.proofs.reading.by_one_word.Goals as goal

pub returns-then-not-is_number : goal.returns-then-not-is_number
returns-then-not-is_number c =
    lacks_one_number c.args.line.now c.in-Some.word.now c.args.limit c.in-Some.ensures
    (λ is_number. absurd (cc (c.is_number.ensures.1 is_number)))

pub returns : goal.returns
returns c =
    let is_number : IsNumber c.in-Some.word.now = search rules in
    within_or_range c.args.line.now c.in-Some.word.now c.args.limit c.value_within.result
    c.ok_or.result c.in-Some.ensures
    is_number c.value_within.ensures c.ok_or.ensures.value
