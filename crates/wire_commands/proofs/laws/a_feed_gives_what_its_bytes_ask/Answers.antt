use Rattle.wire_commands.proofs.StreamLaws.{feeds_ask}
use Rattle.wire_commands.proofs.laws.a_feed_gives_what_its_bytes_ask.Goals as goal

pub returns : goal.returns
returns c = feeds_ask
