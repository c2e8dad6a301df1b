use Rattle.trace_text.proofs.PlayedLaws.{written_is_played}
use Rattle.trace_text.proofs.laws.written_plays_are_read.Goals as goal

pub returns : goal.returns
returns c = written_is_played
