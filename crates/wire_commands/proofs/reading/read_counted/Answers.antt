use Rattle.std.proofs.Common.{arith}
use Rattle.wire_commands.proofs.ReadingLaws.{long_line}
use Rattle.wire_commands.proofs.reading.read_counted.Goals as goal

pub returns-then-line-gt-LONGEST : goal.returns-then-line-gt-LONGEST
returns-then-line-gt-LONGEST c = long_line c.args.line.now (omega arith)
