use Rattle.trace_text.proofs.WrittenLaws.{written_is_read}
use Rattle.trace_text.proofs.laws.written_lines_are_read.Goals as goal

pub returns : goal.returns
returns c = written_is_read
