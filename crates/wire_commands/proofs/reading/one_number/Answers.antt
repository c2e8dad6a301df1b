use Rattle.std.proofs.Common.{[], rules, arith}
use Rattle.wire_commands.specs.Words.{HasWords}
use Rattle.wire_commands.proofs.ReadingLaws.{has_first_number}
use Rattle.wire_commands.proofs.reading.one_number.Goals as goal

pub returns : goal.returns
returns c =
    let none : HasWords c.in-Some.rest.now [] = search rules in
    has_first_number c.args.line.now c.in-Some.rest.now c.in-Some.number c.args.limit c.in-Some.ensures none (omega arith)
