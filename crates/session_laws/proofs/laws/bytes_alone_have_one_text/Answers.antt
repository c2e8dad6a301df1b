use Rattle.session_laws.proofs.PlainSessions.{bytes_alone_have_one_text}
use Rattle.session_laws.proofs.laws.bytes_alone_have_one_text.Goals as goal

pub returns : goal.returns
returns c = bytes_alone_have_one_text
