use Rattle.std.proofs.Common.{◌≡◌, rules}
use Rattle.std.specs.Option.{ok_or, option_zip}
use Rattle.wire_commands.specs.declared.request.Reason.TheVariants.{Range}
use Rattle.wire_commands.specs.Numbers.{IsNumber}
use Rattle.wire_commands.proofs.ReadingLaws.{lacks_two_numbers, both_within_or_range}
use Rattle.wire_commands.proofs.reading.by_two_words.Goals.{then-not-is_number-via-then-not-is_number, then-not-is_number-via-else-not-is_number+then-not-is_number-2}
use Rattle.wire_commands.proofs.reading.by_two_words.Goals as goal

pub returns-then-not-is_number-clause-numbers : goal.returns-then-not-is_number-clause-numbers
returns-then-not-is_number-clause-numbers c =
    lacks_two_numbers c.args.line.now c.in-Some.first.now c.in-Some.second.now c.args.first_limit
    c.args.second_limit
    c.in-Some.ensures
    (λ both. elim c.then-not-is_number.branch [
      | then-not-is_number-via-then-not-is_number w ↦ absurd (cc (c.is_number.ensures.1 both.0))
      | then-not-is_number-via-else-not-is_number+then-not-is_number-2 w ↦
          absurd (cc (w.is_number-else-not-is_number.ensures.1 both.1))
    ])

pub returns-clause-numbers : goal.returns-clause-numbers
returns-clause-numbers c =
    let is_first : IsNumber c.in-Some.first.now = search rules in
    let is_second : IsNumber c.in-Some.second.now = search rules in
    let is : c.ok_or.result ≡ ok_or (option_zip c.value_within.result c.value_within-2.result)
    Range = cc in
    both_within_or_range c.args.line.now c.in-Some.first.now c.in-Some.second.now c.args.first_limit
    c.args.second_limit
    c.value_within.result c.value_within-2.result c.ok_or.result c.in-Some.ensures is_first
    is_second
    c.value_within.ensures c.value_within-2.ensures is
