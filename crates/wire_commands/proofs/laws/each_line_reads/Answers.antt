use Rattle.wire_commands.proofs.Existence.{some_request}
use Rattle.wire_commands.proofs.laws.each_line_reads.Goals as goal

pub returns : goal.returns
returns c = some_request
