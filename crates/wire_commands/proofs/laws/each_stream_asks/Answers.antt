use Rattle.wire_commands.proofs.StreamLaws.{some_asks}
use Rattle.wire_commands.proofs.laws.each_stream_asks.Goals as goal

pub returns : goal.returns
returns c = some_asks
