use Rattle.std.proofs.Common.{[], rules}
use Rattle.wire_commands.specs.Words.{HasWords}
use Rattle.wire_commands.proofs.ReadingLaws.{has_first_numbers}
use Rattle.wire_commands.proofs.reading.two_numbers.Goals as goal

pub returns-clause-numbers : goal.returns-clause-numbers
returns-clause-numbers c =
    let none : HasWords c.in-Some-first_number.rest.now [] = search rules in
    has_first_numbers c.args.line.now c.in-Some.more.now c.in-Some-first_number.rest.now c.in-Some.first
    c.in-Some-first_number.second c.args.first_limit c.args.second_limit c.in-Some.ensures
    c.in-Some-first_number.ensures none c.if-first-first_limit.true c.if-second-second_limit.true
