use Rattle.wire_commands.proofs.StreamLaws.{same_asks}
use Rattle.wire_commands.proofs.laws.no_stream_asks_in_two_ways.Goals as goal

pub returns : goal.returns
returns c = same_asks
