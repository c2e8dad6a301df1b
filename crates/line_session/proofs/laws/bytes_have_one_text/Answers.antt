use Rattle.line_session.proofs.OneText.{bytes_have_one_text}
use Rattle.line_session.proofs.laws.bytes_have_one_text.Goals as goal

pub returns : goal.returns
returns c = bytes_have_one_text
