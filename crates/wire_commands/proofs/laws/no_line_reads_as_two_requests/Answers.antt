use Rattle.wire_commands.proofs.GrammarLaws.{same_request}
use Rattle.wire_commands.proofs.laws.no_line_reads_as_two_requests.Goals as goal

pub returns : goal.returns
returns c = same_request
