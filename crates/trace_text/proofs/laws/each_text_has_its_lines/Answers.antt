use Rattle.trace_text.proofs.CuttingLaws.{texts_have_lines}
use Rattle.trace_text.proofs.laws.each_text_has_its_lines.Goals as goal

pub returns : goal.returns
returns c = texts_have_lines
